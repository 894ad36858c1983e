mod Between
mod DataSets
mod Fitting
mod Itself
mod Joined
mod KnownKeys
mod MetAsLent
mod Moments
mod NamePads
mod Names
mod Pages
mod PiecesInText
mod PreparedCounts
mod Scanning
mod Showing
mod ShownTags
mod Stretches
mod Takes
mod Smaller
mod Struck
mod Universal
mod WildFits
mod WordsInText
pub mod Alone
pub mod Answering
pub mod OneValue
pub mod Parts
pub mod SeveralValues
