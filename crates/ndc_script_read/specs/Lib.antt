pub mod Commands
pub mod Register
pub mod Lines
pub mod Body
pub mod Pieces
