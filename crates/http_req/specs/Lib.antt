-- What a reader believes.
pub mod Limits
pub mod Statuses
pub mod Heads
pub mod Fields
pub mod Targets
pub mod Requests
pub mod ChunkLines
pub mod Trailers
pub mod Chunks
pub mod Outcomes
pub mod Readings
-- What only proofs use.
pub mod Bodies
pub mod Fetching
pub mod Fronts
pub mod RequestCode
