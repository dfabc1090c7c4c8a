-- What a reader believes.
pub mod Views
pub mod Cells
