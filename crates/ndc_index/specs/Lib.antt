pub mod Texts
pub mod Lines
pub mod Told
pub mod Seats
pub mod Kinds
