-- What a reader believes.
pub mod Names
pub mod Variables
pub mod Stack
pub mod Frames
pub mod Base
pub mod Meaning
pub mod Refusal
pub mod FaultTexts
pub mod Appending
pub mod Arrays
pub mod ScalarLending
pub mod NotLending
-- What only proofs use.
pub mod Entries
pub mod Few
pub mod Findings
pub mod GlobalLending
pub mod Globals
pub mod Lending
pub mod OwnLending
pub mod Seen
pub mod StackCode
pub mod TableCode
pub mod TableLending
pub mod TextLending
pub mod Texts
