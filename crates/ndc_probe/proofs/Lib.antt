pub mod AmongLemmas
pub mod CommentLemmas
pub mod HoldLemmas
pub mod ProbeLemmas
