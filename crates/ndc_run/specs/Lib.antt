pub mod Learning
pub mod Leading
pub mod Run
pub mod RunFields
pub mod CopiesFields
