pub mod Line
pub mod Case
