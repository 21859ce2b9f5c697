-- What the contracts of a script's lines cite: its length, the numbers of a line, what commands take, what a line lists, the whole line.
pub mod Length
pub mod Number
pub mod Form
pub mod Segment
pub mod Listed
pub mod Line
