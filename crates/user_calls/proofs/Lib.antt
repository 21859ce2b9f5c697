-- Laws of a user's step, whichever call it is.
pub mod Refusals
pub mod Unchanged
