pub mod Heard
pub mod Hearing
pub mod Nodes
pub mod Sweeps
pub mod Telling
