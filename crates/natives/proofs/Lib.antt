pub mod Finding
pub mod Saying
pub mod Limiting
pub mod Rows
pub mod Hinting
pub mod Standing
