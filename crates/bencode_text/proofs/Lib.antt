pub mod DraftLemmas
pub mod KnownDecimals
pub mod NumberLemmas
pub mod ReadLemmas
pub mod WriterLemmas
