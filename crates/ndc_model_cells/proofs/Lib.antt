pub mod AmongLemmas
pub mod CellLemmas
mod HashLemmas
pub mod NameLemmas
pub mod PlaceLemmas
pub mod SoundLemmas
