pub mod Blocks
pub mod Places
pub mod Layout
pub mod Picture
pub mod Graph
