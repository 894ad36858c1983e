pub mod Captures
pub mod Faults
pub mod ReplyLines
pub mod Reports
pub mod Surroundings
