-- signed numbers, and laws of entries, segments, firings and their starts
pub mod Signed
pub mod Segments
pub mod Schedules
pub mod Firings
pub mod Starts
pub mod WarmKilns
pub mod RulesKept
