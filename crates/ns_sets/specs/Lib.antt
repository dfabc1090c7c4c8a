-- What a reader believes.
pub mod Fields
pub mod Matching
pub mod Merging
pub mod Sets
