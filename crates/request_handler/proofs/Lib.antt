pub mod Announcing
pub mod EachBucket
pub mod Made
pub mod Scraping
