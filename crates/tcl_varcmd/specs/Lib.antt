-- What a reader believes.
pub mod Answers
pub mod Errors
pub mod Scalars
pub mod Arrays
pub mod Commands
-- What only proofs use.
pub mod Reading
pub mod Growing
pub mod InPlace
pub mod Judging
pub mod Linking
