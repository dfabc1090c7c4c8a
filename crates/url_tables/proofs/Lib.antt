pub mod Keys
pub mod Ranks
pub mod Sites
pub mod Latest
pub mod Passed
pub mod Best
