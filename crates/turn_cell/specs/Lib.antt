-- What a reader believes.
pub mod Members
pub mod History
pub mod Passes
pub mod Rule
pub mod Points
pub mod Steps
pub mod Chains
pub mod Joins
pub mod Cells
