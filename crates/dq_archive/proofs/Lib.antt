pub mod Decisions
pub mod Lookups
pub mod UniqueKeys
pub mod OwnRecords
pub mod PastRecords
pub mod PastLookups
pub mod AddedRecords
