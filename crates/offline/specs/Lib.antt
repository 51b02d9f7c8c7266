pub mod Command
pub mod Follows
pub mod Full
pub mod Records
pub mod Replay
