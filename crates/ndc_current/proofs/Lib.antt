pub mod PickLemmas
