mod Draining
pub mod Lists
mod Places
mod Sending
mod Sweeping
mod Syncing
mod Turning
