pub mod Address
pub mod Fault
pub mod Hash
pub mod Minute
pub mod Order
pub mod Refusal
pub mod Same
