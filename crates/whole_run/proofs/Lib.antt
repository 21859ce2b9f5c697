-- the requests that a user hands out, and what a server answers
pub mod Requests
pub mod Answers
-- a refused step leaves all as it was
pub mod Refusals
pub mod Starts
