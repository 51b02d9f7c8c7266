pub mod Batches
pub mod Notes
pub mod Reading
