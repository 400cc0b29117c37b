pub mod Text
pub mod Number
pub mod Header
pub mod Operands
pub mod Verbs
