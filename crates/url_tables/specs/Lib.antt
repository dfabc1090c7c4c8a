-- What a reader believes.
pub mod Urls
pub mod Serving
pub mod Filters
pub mod Laws
-- What only proofs use.
pub mod Tables
pub mod Searching
