-- What a reader believes.
pub mod Fresh
pub mod Settle
pub mod Defines
pub mod Replies
pub mod Visits
pub mod Main
pub mod Standing
pub mod Interps
pub mod Falls
pub mod Came
pub mod Laws
-- What only proofs use.
pub mod CameCode
pub mod Steps
pub mod Within
pub mod Ways
pub mod Begun
pub mod Renewing
