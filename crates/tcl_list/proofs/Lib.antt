pub mod Answering
pub mod Behind
pub mod Braces
pub mod Escapes
pub mod Laws
pub mod Quoting
pub mod Slashes
