pub mod PlaceLemmas
pub mod RemovedLemmas
pub mod TextLemmas
pub mod RowLemmas
pub mod ReplayLemmas
pub mod OriginLemmas
pub mod LawProofs
pub mod OriginOrder
