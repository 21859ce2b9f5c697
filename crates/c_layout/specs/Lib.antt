-- What the calls over lent bytes answer and leave, and what is claimed of refused ones.
pub mod Mark
pub mod Server
pub mod User
pub mod Claims
pub mod Inner
