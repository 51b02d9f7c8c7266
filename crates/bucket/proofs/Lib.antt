mod Asking
mod AskLaws
mod CallLaws
mod CallLemmas
mod Families
mod LivePeers
mod Judging
mod KeptLemmas
mod Looked
mod OrderLemmas
mod Settling
mod ToldLemmas
mod DropLemmas
mod ForgetLemmas
mod FoundLemmas
mod FreshLemmas
mod Indexed
mod IndexLemmas
mod JoinLemmas
mod PlaceLemmas
mod PutLemmas
mod RowLemmas
mod SoundLemmas
mod TableLemmas
pub mod FollowLemmas
pub mod ScanLemmas
mod ShelfLemmas
