pub mod AddressLemmas
pub mod OrderLemmas
pub mod SameLemmas
