pub mod CountLemmas
pub mod PointLemmas
pub mod MovedLemmas
pub mod LaterLemmas
pub mod LawProofs
