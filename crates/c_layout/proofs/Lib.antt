-- Laws of the bytes, and of the calls over them.
pub mod Narrowed
pub mod Heads
pub mod States
pub mod Inverses
pub mod UserCalls
pub mod UserAnswers
pub mod Refusals
