pub mod Levels
pub mod CStore
pub mod Views
