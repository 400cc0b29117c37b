pub mod History
pub mod Common
pub mod Shared
