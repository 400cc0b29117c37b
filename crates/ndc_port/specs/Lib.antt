pub mod Fault
pub mod Bytes
pub mod Memory
