pub mod Completeness
pub mod Connection
pub mod Datagram
pub mod Full
pub mod Jobs
pub mod Reading
pub mod ServedLinks
pub mod Worked
