-- What a reader believes.
pub mod Lines
pub mod Chans
