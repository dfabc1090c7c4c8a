pub mod Opening
pub mod Naming
pub mod Replying
pub mod Lines
