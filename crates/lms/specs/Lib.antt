-- RFC 8554, Leighton-Micali hash-based signatures, by its sections

pub mod Types
pub mod Inner
pub mod Ots
pub mod Tree
pub mod Signature
pub mod Sets
pub mod Check
pub mod Calls
pub mod Claims
pub mod Examples
