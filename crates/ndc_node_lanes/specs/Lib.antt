pub mod Lane
pub mod Levels
pub mod Told
