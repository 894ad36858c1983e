pub mod Among
pub mod Lengths
pub mod Octets
pub mod Readers
pub mod formers
