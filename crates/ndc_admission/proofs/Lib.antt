pub mod AddedLemmas
pub mod EndLemmas
pub mod FaultLemmas
pub mod GoesLemmas
pub mod HonestLemmas
pub mod MadeLemmas
pub mod PairLemmas
pub mod RangeLemmas
