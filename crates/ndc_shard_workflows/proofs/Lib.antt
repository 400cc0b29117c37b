pub mod AmongLemmas
pub mod ArriveLemmas
pub mod BeginLemmas
pub mod BehindLemmas
pub mod ByDomainLemmas
mod CarriedLemmas
pub mod CellLemmas
pub mod DomainLemmas
pub mod DueLemmas
pub mod FindLemmas
mod FirstKeyLemmas
pub mod FirstLemmas
pub mod FreedLemmas
pub mod FrontLemmas
pub mod HoldLemmas
pub mod KeptLemmas
pub mod LearnableLemmas
mod LearnedLemmas
pub mod ListLemmas
pub mod MessageDomainLemmas
pub mod NameLemmas
pub mod NamedLemmas
mod NextLemmas
pub mod OkLemmas
pub mod OneWriteLemmas
pub mod OwnLemmas
pub mod PlaceLemmas
pub mod PutLemmas
pub mod PutOffLemmas
pub mod ResultLemmas
pub mod SameLemmas
pub mod TogetherLemmas
pub mod WaitLemmas
pub mod WriteLemmas
pub mod SettleLemmas
pub mod HonestLemmas
pub mod AdmittedLemmas
pub mod TriedLemmas
pub mod HandedLemmas
pub mod ForgetLemmas
pub mod HistoryLemmas
pub mod RecountLemmas
pub mod LackingLemmas
