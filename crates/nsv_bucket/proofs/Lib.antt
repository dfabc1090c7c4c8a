pub mod Growing
pub mod Found
pub mod Maps
pub mod Pairs
pub mod Results
pub mod Standing
pub mod Writing
