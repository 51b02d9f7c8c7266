pub mod Links
pub mod Nodes
pub mod Pairs
pub mod Loops
pub mod Rings
