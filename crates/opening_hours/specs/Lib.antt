-- Document 02's definitions of opening hours, one that inner contracts cite, words for the claims, the claims, and computed examples.
pub mod Opening
pub mod Inner
pub mod Starts
pub mod Claims
pub mod Examples
