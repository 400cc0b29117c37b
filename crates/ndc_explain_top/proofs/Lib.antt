mod Fronts
mod Refusals
mod Sectionings
