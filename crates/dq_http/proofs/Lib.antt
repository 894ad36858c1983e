pub mod HttpTurns
pub mod Room
