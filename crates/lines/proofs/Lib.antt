-- Laws that the proofs cite.
pub mod Runs
pub mod Decoding
