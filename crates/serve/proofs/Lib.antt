pub mod CompletenessLemmas
pub mod ConnectionLemmas
pub mod FullLemmas
pub mod Handling
mod Working
mod Linking
pub mod ReadingLemmas
