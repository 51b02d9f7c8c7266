pub mod Run
pub mod Asking
pub mod Dealing
pub mod Working
pub mod Joining
pub mod Scanning
pub mod Phases
