pub mod Answers
pub mod Orders
pub mod Queries
pub mod Candidates
pub mod EntryReads
pub mod Views
pub mod Examples
