mod Merged
mod MergeLemmas
mod Puts
mod Readings
