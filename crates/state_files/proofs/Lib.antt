-- laws of slots; reading from a buffer that was written to; that saving is safe; what slots of version 0.1.0 say as they are laid now
pub mod Slots
pub mod Written
pub mod Saved
pub mod Older
pub mod Paths
pub mod Framed
