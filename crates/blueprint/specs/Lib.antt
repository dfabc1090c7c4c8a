-- What a reader believes.
pub mod Scripts
pub mod Reading
pub mod States
pub mod Publishing
pub mod Looking
pub mod Objects
pub mod Laws
-- What only proofs use.
pub mod Kept
pub mod Order
