-- A list of calls of the exported functions is a run of document 01's, so that both claims hold of it.
pub mod Ranges
pub mod Decoding
pub mod Users
pub mod Servers
pub mod Zeros
pub mod Forks
pub mod Honest
