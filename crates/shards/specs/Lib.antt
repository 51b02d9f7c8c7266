pub mod Shape
pub mod Histories
pub mod Passing
pub mod Joining
