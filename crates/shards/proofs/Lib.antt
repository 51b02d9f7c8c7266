pub mod PlaceLemmas
mod SettingsLemmas
mod TurnLemmas
mod PassLemmas
pub mod FirstPass
mod CallLemmas
mod SplitLemmas
pub mod PassingLemmas
mod JoinLemmas
mod CloseLemmas
pub mod Sending
pub mod JoiningLemmas
