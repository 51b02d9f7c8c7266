pub mod Bencode
pub mod Draft
pub mod Reading
pub mod Writers
