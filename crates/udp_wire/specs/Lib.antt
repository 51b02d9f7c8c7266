pub mod Hashes
pub mod Packets
pub mod Places
pub mod Replies
