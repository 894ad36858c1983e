pub mod AnyFiles
pub mod Closing
pub mod Contents
pub mod Memory
