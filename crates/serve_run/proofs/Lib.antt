pub mod Alone
pub mod Earlier
pub mod Starts
pub mod Units
pub mod Begins
