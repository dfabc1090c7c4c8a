pub mod Asking
pub mod NamesGathered
pub mod Lifting
pub mod Naming
