-- Laws of the numbers of a text.
pub mod Cases
pub mod Lists
