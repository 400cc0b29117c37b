pub mod Text
pub mod Table
pub mod Ranges
pub mod Walk
pub mod Seen
pub mod Read
pub mod Views
pub mod Bare
