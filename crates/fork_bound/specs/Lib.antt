-- Document 01's claim about every list of steps, and a computed run.
pub mod Fair
pub mod Claim
pub mod ByBytes
pub mod Sample
