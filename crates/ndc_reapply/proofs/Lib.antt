pub mod OrderLemmas
pub mod StrayLemmas
pub mod WrittenLemmas
pub mod ApartLemmas
pub mod CopyLemmas
pub mod MeaningLemmas
pub mod LawProofs
