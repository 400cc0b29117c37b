pub mod Ascii
pub mod SameKind
pub mod Texts
pub mod Fronts
pub mod SortedLemmas
