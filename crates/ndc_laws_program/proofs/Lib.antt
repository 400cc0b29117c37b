pub mod DumpLemmas
pub mod GeneratedLemmas
mod FoundLemmas
mod InsideLemmas
mod KeepLemmas
mod LinePromiseLemmas
pub mod PromiseLemmas
mod SameLemmas
mod SettleLemmas
mod SumLemmas
pub mod SummedLemmas
mod ToldLemmas
mod WorldPromiseLemmas
