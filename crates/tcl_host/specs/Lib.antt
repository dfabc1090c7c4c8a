-- What a reader believes.
pub mod Codes
pub mod PagePaths
pub mod Pages
pub mod Leaf
pub mod Checks
pub mod Answers
pub mod Outcomes
