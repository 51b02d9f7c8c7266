pub mod Shape
pub mod Histories
pub mod Rule
pub mod Plays
pub mod Seats
