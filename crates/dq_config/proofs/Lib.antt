mod Faults
mod Literals
mod Sizes
mod Sound
mod Wholes
