pub mod AskLemmas
pub mod DealLemmas
pub mod JoinLemmas
pub mod MergeLemmas
pub mod TeamLemmas
pub mod ScanLemmas
pub mod PhaseLemmas
pub mod RunLemmas
