pub mod Words
pub mod Tallies
pub mod Writers
pub mod Handovers
pub mod Gaps
pub mod Refusals
