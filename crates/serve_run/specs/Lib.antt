-- What a reader believes.
pub mod Statuses
pub mod Starting
pub mod Serving
-- What only proofs use.
pub mod Stages
