pub mod Holdings
pub mod Reports
pub mod Keyed
pub mod Laws
