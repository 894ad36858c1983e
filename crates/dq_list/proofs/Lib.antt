pub mod Among
pub mod Finding
pub mod Readers
pub mod Searches
