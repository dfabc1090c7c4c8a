-- What only proofs use.
pub mod Joining
