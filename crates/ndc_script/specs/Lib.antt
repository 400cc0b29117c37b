pub mod Generate
pub mod Alike
