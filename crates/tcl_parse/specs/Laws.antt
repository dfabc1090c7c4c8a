-- Proofs that the rules give each text exactly one outcome. No definition that a reader must believe stands here.
pub mod Braces
pub mod Within
pub mod One
pub mod Some
pub mod Inside
