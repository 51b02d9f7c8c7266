pub mod Trace
pub mod Written
