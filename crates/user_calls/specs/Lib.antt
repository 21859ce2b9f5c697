-- A user's calls as one, and what is claimed of its refused steps.
pub mod Calls
pub mod Claims
