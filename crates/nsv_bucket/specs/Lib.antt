-- What a reader believes.
pub mod Arrays
pub mod Replies
pub mod Questions
pub mod Reads
pub mod Writes
pub mod Lists
pub mod Listings
pub mod Steps
pub mod Buckets
pub mod Laws
-- What only proofs use.
pub mod Bases
