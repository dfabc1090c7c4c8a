pub mod OneList
pub mod Searching
pub mod Pushing
