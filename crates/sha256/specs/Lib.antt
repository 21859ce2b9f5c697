-- SHA-256 as FIPS 180-4 defines it, over lists of numbers: a byte is a number below 256, a word one below 2^32.
pub mod Bytes
pub mod Word
pub mod Constants
pub mod Block
pub mod Hash
pub mod Inner
pub mod Examples
