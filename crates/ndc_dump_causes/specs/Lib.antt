pub mod Given
pub mod Causes
pub mod Originals
pub mod Replaying
pub mod Chains
pub mod Keys
pub mod Trails
