-- What a reader believes.
pub mod Order
pub mod States
pub mod Laws
