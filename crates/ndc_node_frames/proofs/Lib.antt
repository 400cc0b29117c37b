pub mod KindNames
pub mod MemberLists
pub mod Whole
pub mod FrameLaws
pub mod BackToFrames
