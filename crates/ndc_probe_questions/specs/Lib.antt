pub mod Finding
pub mod Questions
