-- What a reader believes.
pub mod Marks
pub mod Pieces
pub mod PiecesOf
-- What only proofs use.
pub mod Steps
pub mod Finding
pub mod Cutting
