-- What a reader believes.
pub mod Command
pub mod Reading
