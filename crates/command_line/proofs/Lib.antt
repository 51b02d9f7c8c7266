pub mod NodeLemmas
pub mod Offered
pub mod WordLemmas
