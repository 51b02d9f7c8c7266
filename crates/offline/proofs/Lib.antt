pub mod Adding
pub mod Alike
pub mod Completing
pub mod Following
pub mod FullLemmas
pub mod Meeting
pub mod Replaying
