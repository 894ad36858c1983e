pub mod Responses
pub mod Searches
