-- Runs of the exported calls: users and servers in bytes, and both claims about them.
pub mod Bytes
pub mod Runs
pub mod Claim
