pub mod Asking
pub mod Top
pub mod Running
pub mod Show
pub mod Demo
