pub mod HeadLemmas
pub mod WaitLemmas
pub mod WatchLemmas
