-- What a reader believes.
pub mod Answers
pub mod Words
pub mod Checks
pub mod Indexes
pub mod Lists
pub mod Options
pub mod Sorting
pub mod Searching
pub mod Cutting
pub mod Parts
pub mod Formatting
pub mod Strings
pub mod Subcommands
pub mod Pure
pub mod Ranges
pub mod Names
pub mod Hints
pub mod Places
-- What only proofs use.
pub mod SortingLaws
pub mod Hinted
