pub mod DoneLemmas
pub mod KeptLemmas
pub mod LaneLemmas
pub mod LevelLemmas
