-- Document 01's whole runs: the steps of users and of one server, and lists of them.
pub mod World
pub mod Runs
