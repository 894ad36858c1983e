pub mod Day
pub mod Digits
pub mod Parts
pub mod Range
pub mod Time
pub mod Title
pub mod Trimming
pub mod Uid
