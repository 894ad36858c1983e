mod Closed
mod Found
pub mod Honest
mod InMemory
