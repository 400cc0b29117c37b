pub mod Listing
pub mod LossLaws
