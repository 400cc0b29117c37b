pub mod AncestorLemmas
pub mod AskedLemmas
pub mod BringLemmas
pub mod ChainLemmas
pub mod GapLaws
pub mod OrderLemmas
pub mod ServeLemmas
