pub mod ServiceProgress
pub mod ClientTurns
pub mod LineEnds
pub mod Listed
pub mod Outcomes
pub mod Visiting
pub mod Rereading
