pub mod ActivityLemmas
pub mod AskLemmas
pub mod DamageLemmas
pub mod HandoverLemmas
pub mod MergeLemmas
pub mod PassingLemmas
pub mod TellLemmas
pub mod JoinLemmas
