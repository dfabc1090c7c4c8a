-- What a reader believes.
pub mod Caches
pub mod Readings
-- What only proofs use.
pub mod Entries
