pub mod BodyLemmas
pub mod HeadLemmas
pub mod Moves
pub mod NamedLemmas
pub mod OrderLemmas
pub mod PeerLemmas
pub mod ScrapedRows
pub mod Scrapes
