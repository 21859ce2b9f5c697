-- definitions
pub mod Level
pub mod Label
pub mod Expr
pub mod Tree
pub mod Cover
pub mod Read
pub mod Inner
pub mod Table
pub mod Message
pub mod Setup
pub mod Bytes
pub mod Examples
