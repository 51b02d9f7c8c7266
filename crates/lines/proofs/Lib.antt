pub mod Along
mod AnswerLemmas
mod BufferLemmas
pub mod Complete
mod EndLemmas
pub mod ReplyLemmas
mod RunLemmas
pub mod TextLemmas
