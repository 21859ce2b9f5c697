-- Shapes of entries, document 02's definitions of a firing schedule and of a kiln still warm, what is claimed of them, a word for other
-- laws, and computed examples.
pub mod Entry
pub mod Schedule
pub mod Warm
pub mod Claims
pub mod Temperatures
pub mod Examples
