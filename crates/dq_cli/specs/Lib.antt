pub mod Clap
pub mod CommandLine
