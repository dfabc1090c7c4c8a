-- What a reader believes.
pub mod Statuses
pub mod Loads
pub mod Running
pub mod Natives
-- What only proofs use.
pub mod Answers
pub mod Made
