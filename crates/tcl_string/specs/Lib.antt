-- What only proofs use.
pub mod Early
pub mod Filling
pub mod Joins
pub mod Keeping
pub mod Patterns
pub mod Sets
