-- What a reader believes.
pub mod Connections
pub mod Calls
pub mod Laws
pub mod Counting
