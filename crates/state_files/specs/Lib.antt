-- Slots of a state file, the file of a server, slots of version 0.1.0, the arguments of programs, and the paths of files.
pub mod Slot
pub mod Server
pub mod Older
pub mod Argument
pub mod Path
pub mod Frame
