-- What a reader believes.
pub mod Load
-- What only proofs use.
pub mod Targets
pub mod Parts
