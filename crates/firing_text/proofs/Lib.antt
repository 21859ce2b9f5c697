-- Laws of a schedule's text.
pub mod Segments
