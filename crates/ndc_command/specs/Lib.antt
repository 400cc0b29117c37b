pub mod Stage
pub mod Actions
pub mod Plan
pub mod Tip
pub mod Judge
pub mod Laws
