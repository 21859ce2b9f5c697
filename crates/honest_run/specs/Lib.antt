-- Document 00's honest run: all users and servers, the claim, and computed examples.
pub mod Network
pub mod Claim
pub mod Sample
