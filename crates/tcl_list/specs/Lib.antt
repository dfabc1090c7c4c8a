-- What a reader believes.
pub mod Answers
-- What only proofs use.
pub mod Appending
pub mod Manners
