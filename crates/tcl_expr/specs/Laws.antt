-- Proofs that the rules give each text exactly one answer. No definition that a reader must believe stands here.
pub mod Fits
pub mod One
pub mod Some
pub mod Answers
