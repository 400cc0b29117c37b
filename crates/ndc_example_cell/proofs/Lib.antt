pub mod SizeLemmas
pub mod SharedLemmas
