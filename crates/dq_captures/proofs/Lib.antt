pub mod Numbers
pub mod Lines
pub mod OneSpelling
pub mod BroughtOctets
pub mod Steps
pub mod WrittenLines
pub mod Spelling
