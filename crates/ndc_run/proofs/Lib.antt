pub mod StateLemmas
pub mod KeptLemmas
pub mod BehindLemmas
pub mod TipLemmas
pub mod LearnLemmas
pub mod FactLemmas
