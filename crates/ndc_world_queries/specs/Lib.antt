pub mod Gaps
pub mod Learned
pub mod Same
pub mod Summaries
