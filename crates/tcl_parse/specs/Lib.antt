-- What a reader believes.
pub mod Bytes
pub mod Gaps
pub mod Names
pub mod Braces
pub mod Tree
pub mod Steps
pub mod Outcome
pub mod Grammar
pub mod Reading
pub mod Canonical
pub mod View
-- What only proofs use.
pub mod Answers
pub mod Laws
