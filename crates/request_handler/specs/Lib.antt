pub mod Cleaning
pub mod Connection
pub mod Datagram
pub mod Making
