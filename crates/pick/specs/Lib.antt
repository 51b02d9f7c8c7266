pub mod Passing
pub mod Picks
