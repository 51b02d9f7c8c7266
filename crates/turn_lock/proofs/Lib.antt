pub mod Lists
pub mod HistoryLemmas
pub mod ViewLemmas
pub mod StepLemmas
pub mod SplitLemmas
pub mod EndLemmas
pub mod TurnLemmas
pub mod LawLemmas
