pub mod Attributes
pub mod ChangedStep
pub mod NSet
pub mod CreatedStep
pub mod NCreate
pub mod Steps
pub mod Views
