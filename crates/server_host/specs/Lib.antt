-- What a reader believes.
pub mod Hosts
pub mod Parts
pub mod Checks
pub mod Registering
pub mod Interpreting
pub mod Scheduling
pub mod Sharing
pub mod Leaf
pub mod Laws
-- What only proofs use.
pub mod Answers
