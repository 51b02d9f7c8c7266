pub mod Access
pub mod Devices
pub mod Input
pub mod Opening
pub mod Run
pub mod Summary
pub mod Teams
pub mod Served
