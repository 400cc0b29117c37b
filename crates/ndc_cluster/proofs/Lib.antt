pub mod DealLemmas
pub mod EachLemmas
pub mod RoundLemmas
pub mod ShardLemmas
pub mod TurnLemmas
pub mod WholeLemmas
