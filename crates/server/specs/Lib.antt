-- Document 01's server: the shape of requests, the order of checks, what a call leaves, and what is claimed of it.
pub mod Checks
pub mod Serve
pub mod Claims
pub mod Inner
