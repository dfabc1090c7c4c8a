-- What a reader believes.
pub mod Events
pub mod Lines
pub mod Objects
pub mod World
pub mod Runs
pub mod Steps
pub mod Schedules
pub mod Defining
pub mod Plays
pub mod Files
pub mod Summary
pub mod Rehearsing
pub mod Numbers
-- What only proofs use.
pub mod Reading
pub mod Intakes
pub mod Playing
pub mod Advancing
