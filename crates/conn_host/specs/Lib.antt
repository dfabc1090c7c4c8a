-- What a reader believes.
pub mod Errors
pub mod Forms
pub mod Credentials
pub mod Conns
pub mod Checks
pub mod Ids
pub mod SetCommands
pub mod ChannelCommands
pub mod RequestCommands
pub mod Responding
pub mod TextCommands
pub mod Leaf
-- What only proofs use.
pub mod Answers
pub mod Waiting
