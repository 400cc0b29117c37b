pub mod CompareLemmas
pub mod GapLemmas
pub mod TipLemmas
pub mod BatchLemmas
mod FoundLemmas
mod PartLemmas
mod ShardLemmas
pub mod TableLemmas
