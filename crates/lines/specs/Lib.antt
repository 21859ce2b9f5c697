-- What the contracts of the text functions cite, and the memory of programs.
pub mod Text
pub mod Memory
pub mod Examples
pub mod Hexadecimal
