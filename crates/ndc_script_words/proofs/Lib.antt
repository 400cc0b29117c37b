pub mod Cuts
pub mod Digits
pub mod Fits
pub mod HeaderNames
pub mod Members
pub mod Names
mod WordLists
