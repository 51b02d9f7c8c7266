pub mod Index
pub mod Members
pub mod Peers
pub mod Shape
pub mod Short
