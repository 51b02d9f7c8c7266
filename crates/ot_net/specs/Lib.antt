pub mod Adapters
pub mod Addresses
pub mod Making
