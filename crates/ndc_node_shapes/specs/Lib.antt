pub mod Ranges
pub mod Bytes
pub mod Objects
pub mod Shapes
pub mod Text
pub mod Read
pub mod Fits
pub mod Common
