-- What the contracts of every layer cite: the numbers of refusals and of kinds.
pub mod Kinds
pub mod Refusals
