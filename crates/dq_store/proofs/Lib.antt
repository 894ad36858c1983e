pub mod Records
mod Levels
mod Sieved
mod Sifted
mod LevelAttributes
pub mod Fitting
pub mod Outcomes
pub mod OtherRows
mod StaysSound
mod Whole
