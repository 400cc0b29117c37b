pub mod Reset
pub mod Laws
