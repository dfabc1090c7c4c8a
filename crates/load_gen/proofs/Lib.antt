pub mod Rounds
pub mod PieceBytes
