pub mod Conditions
pub mod Document
pub mod Limits
pub mod Routing
pub mod Faults
