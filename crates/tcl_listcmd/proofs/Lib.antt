pub mod Joining
pub mod Numbers
pub mod Parts
pub mod Saying
