-- Laws that the proofs cite; `ReadBack` has laws of the definitions themselves.
pub mod Digits
pub mod Pieces
pub mod Inputs
pub mod Sent
pub mod ReadBack
