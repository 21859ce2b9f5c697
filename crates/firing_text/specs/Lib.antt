-- What the contracts of a schedule's text cite: the entry that is laid out of it.
pub mod Laid
