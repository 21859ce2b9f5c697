-- What the exported functions answer and leave. (The server's and the user's: `c_layout`.)
pub mod Hash
pub mod Tree
pub mod Lms
