pub mod FullScrape
