mod Afterwards
mod LookedUp
mod Matching
mod Orders
pub mod OrderedReads
mod Queries
mod Records
mod StaysSound
mod Steps
mod WaitingAnswers
mod WorkedExamples
