-- What the programs compute: users' keys, the lines of a file of cases, and the numbers that a text lists.
pub mod Key
pub mod Case
pub mod Listed
