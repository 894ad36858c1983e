mod Acceptances
mod Contexts
mod Ends
mod FromHere
mod HeldOctets
mod InTurn
mod Loops
mod OneByOne
mod OnePdu
pub mod ShortPdus
mod Sound
pub mod HeldAssociations
mod Streams
mod Values
