-- Laws of a user's steps and a server's calls on their places.
pub mod Steps
pub mod Served
