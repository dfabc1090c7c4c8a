-- What a reader believes.
pub mod Entries
pub mod Due
pub mod Allowed
pub mod Steps
pub mod Asking
-- What only proofs use.
pub mod Sample
