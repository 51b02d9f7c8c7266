pub mod Load
pub mod Text
pub mod Drawing
pub mod Sums
pub mod Alike
