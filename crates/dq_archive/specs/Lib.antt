pub mod Archives
pub mod Decisions
pub mod Additions
pub mod PastArchives
