pub mod Below
pub mod Print
pub mod WellFormed
