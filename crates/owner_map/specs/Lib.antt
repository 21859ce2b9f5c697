-- What the program `paths` reads and prints.
pub mod Input
pub mod Table
pub mod Answer
pub mod Examples
