pub mod Items
pub mod BatchEnds
pub mod Visible
pub mod MessageLaws
