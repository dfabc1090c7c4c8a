-- What a reader believes.
pub mod States
pub mod Checks
pub mod Output
pub mod Includes
pub mod Arguments
pub mod Leaving
pub mod Leaf
-- What only proofs use.
pub mod Answers
