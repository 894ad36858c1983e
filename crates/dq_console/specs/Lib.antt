pub mod Console
pub mod RequestNotes
pub mod ServiceProgress
pub mod ClientTurns
pub mod ConsoleLines
pub mod Requests
