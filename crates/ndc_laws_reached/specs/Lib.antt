pub mod Laws
pub mod Writing
pub mod Tables
pub mod OneWriter
pub mod Trimmed
pub mod Settled
