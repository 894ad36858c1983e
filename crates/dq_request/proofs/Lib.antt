pub mod Asked
pub mod Matched
pub mod Taking
pub mod Words
pub mod SpelledValues
