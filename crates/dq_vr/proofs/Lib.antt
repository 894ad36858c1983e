mod Entries
mod Letters
mod Rising
