-- Laws of windows, of open minutes, of the search over windows, and of the earliest start.
pub mod InOrder
pub mod Fitting
pub mod Minutes
pub mod Search
pub mod Openings
pub mod Answers
