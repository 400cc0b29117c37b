pub mod QueueLemmas
pub mod FoundLemmas
pub mod MayLemmas
pub mod AskedLemmas
pub mod ReplyLemmas
pub mod RoomLemmas
pub mod AgainLemmas
pub mod DueLemmas
pub mod ReadingLemmas
pub mod StayLemmas
pub mod SentLemmas
pub mod LoneLemmas
pub mod KeepingLemmas
pub mod KeepLaws
pub mod LoadLemmas
pub mod TwoLemmas
pub mod SoFarLemmas
mod BranchLemmas
mod EndLemmas
mod GapLemmas
mod GroupLemmas
pub mod AdmittedLemmas
pub mod TryLemmas
pub mod PairLemmas
pub mod TriedLemmas
