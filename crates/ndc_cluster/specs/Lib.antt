pub mod Clusters
pub mod Lending
pub mod Rounds
pub mod Each
pub mod Homes
pub mod Idle
