pub mod Written
pub mod Writer
