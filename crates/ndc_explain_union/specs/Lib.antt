pub mod Parts
pub mod Takings
pub mod Groupings
pub mod Unions
