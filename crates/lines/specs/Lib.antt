pub mod Buffer
pub mod Reading
pub mod Replies
pub mod Responses
pub mod Run
pub mod Streams
pub mod Text
pub mod Turns
