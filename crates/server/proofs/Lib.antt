-- Laws that several proofs cite.
pub mod Asked
pub mod Judged
pub mod Codes
pub mod Numbered
pub mod Effects
pub mod Served
-- What holds of every call, and of one call after another.
pub mod Theorems
pub mod After
pub mod PullTheorems
pub mod OtherPulls
pub mod Repeats
pub mod GiveUps
pub mod Sizes
