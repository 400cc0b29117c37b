pub mod Rebuilt
pub mod Kept
pub mod Found
