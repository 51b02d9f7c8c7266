pub mod Again
pub mod HashLemmas
pub mod ReplyAgain
