-- What a reader believes.
pub mod Arithmetic
pub mod Operators
pub mod Trees
pub mod Outcome
pub mod Tokens
pub mod Runs
pub mod Grammar
pub mod Reading
pub mod Places
pub mod View
-- What only proofs use.
pub mod Stack
pub mod Answers
pub mod Laws
