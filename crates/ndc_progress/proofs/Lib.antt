pub mod GreatestLemmas
pub mod HeldLemmas
pub mod HoldingLemmas
pub mod MergeLemmas
pub mod NewsLemmas
pub mod OrderLemmas
