pub mod AddLemmas
pub mod CommonLemmas
