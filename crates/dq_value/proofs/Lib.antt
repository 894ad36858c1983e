mod Cuts
mod Kept
mod Moments
mod Numbers
mod Pads
mod Pieces
mod Spaces
mod Spelled
