pub mod Bursts
pub mod Counts
pub mod Reading
pub mod Running
pub mod Standing
pub mod Summary
pub mod Rest
pub mod Seats
