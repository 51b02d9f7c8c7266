pub mod Query
pub mod Spans
