-- What a reader believes.
pub mod StatusLine
pub mod Statuses
pub mod Moment
pub mod OutputFields
pub mod ResponseBytes
pub mod Replies
pub mod Delivery
pub mod Lines
-- What only proofs use.
pub mod HeadLines
pub mod ResponseCode
