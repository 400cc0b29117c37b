pub mod Promised
pub mod Grown
pub mod HandedOver
pub mod TakenOver
pub mod Counts
pub mod Worked
