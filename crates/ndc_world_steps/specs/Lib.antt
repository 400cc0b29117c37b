pub mod Links
pub mod Telling
pub mod Told
pub mod Versions
