pub mod AccessLemmas
pub mod DeviceLemmas
pub mod SummaryLemmas
pub mod TeamLemmas
pub mod ServedLemmas
pub mod RunLemmas
pub mod Crossing
