-- Laws of the user list.
pub mod Lists
