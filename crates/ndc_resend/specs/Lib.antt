pub mod Asked
pub mod Bringing
pub mod Gaps
pub mod PutOff
pub mod Serving
