pub mod Reads
pub mod Numbers
pub mod Names
pub mod Options
pub mod Words
pub mod WellFormed
pub mod Command
pub mod Found
