pub mod Dictionary
pub mod StudyRoot
pub mod Tag
pub mod Tags
pub mod Vr
