-- The user list.
pub mod Users
