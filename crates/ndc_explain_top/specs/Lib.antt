pub mod Asked
pub mod Told
pub mod Rows
pub mod Sections
pub mod Report
pub mod Top
