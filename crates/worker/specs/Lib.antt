-- What a reader believes.
pub mod Lists
pub mod Turns
pub mod Runs
pub mod Clean
pub mod Outside
pub mod Cost
pub mod Items
pub mod Ends
pub mod Sessions
pub mod Claims
pub mod Scripts
pub mod Laws
-- What only proofs use.
pub mod Asking
pub mod Renewing
pub mod Working
pub mod Resuming
pub mod Resetting
pub mod Beginning
pub mod Behind
