pub mod Pieces
pub mod Writers
pub mod Losses
pub mod Branches
pub mod Standing
pub mod Signals
pub mod Explanation
