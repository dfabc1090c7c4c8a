-- What a reader believes.
pub mod Table
pub mod Renaming
pub mod Commands
pub mod Places
pub mod Laws
-- What only proofs use.
pub mod Slots
pub mod Journal
pub mod Latest
