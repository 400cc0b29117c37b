pub mod Strays
pub mod Places
pub mod OrderedSignals
pub mod Reapplied
pub mod Laws
