-- Laws of a script's lines.
pub mod Lines
pub mod Lists
