pub mod TipLemmas
pub mod JudgeLemmas
pub mod NameLemmas
pub mod JoinLemmas
pub mod AllowedLemmas
pub mod WrittenLemmas
pub mod LawProofs
