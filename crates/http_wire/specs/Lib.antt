pub mod Head
pub mod Reply
pub mod Watch
