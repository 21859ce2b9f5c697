-- Laws of RFC 8554's definitions; `RoundTrip` is what other crates know of keys and signatures.

pub mod Parts
pub mod Chains
pub mod Nodes
pub mod RoundTrip
pub mod Writing
pub mod Words
pub mod Digits
pub mod Growth
pub mod Climbing
pub mod Rows
pub mod ByType
