pub mod Names
pub mod Front
pub mod Answering
pub mod Closing
pub mod Whole
pub mod Canonical
pub mod Gaps
