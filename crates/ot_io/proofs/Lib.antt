pub mod Asides
pub mod Lists
pub mod Retries
pub mod Runs
