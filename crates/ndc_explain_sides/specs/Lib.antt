pub mod Subjects
pub mod Partings
pub mod Traces
pub mod Sides
