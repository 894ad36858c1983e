pub mod Facts
pub mod Joined
pub mod Members
pub mod Reading
pub mod Shorts
mod Words
mod Nesting
mod Numbers
mod Objects
mod Texts
mod Characters
mod Spelled
mod SpelledTexts
pub mod AsciiTexts
