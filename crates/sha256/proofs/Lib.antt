-- Laws that several proofs cite. `Hashes` is all that other crates know of the hash; `Laws`, `Words` and `Cases` serve them too.
pub mod Cases
pub mod Laws
pub mod Numbers
pub mod Words
pub mod Choose
pub mod Window
pub mod Blocks
pub mod Parts
pub mod OneBlock
pub mod Hashes
