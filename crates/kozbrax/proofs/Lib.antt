-- Laws that the exports' proofs cite.
pub mod Ranges
pub mod Nodes
