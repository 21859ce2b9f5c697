-- A user's and a server's place: the layout that programs read, and what a step and a call leave.
pub mod LogName
pub mod UserStep
pub mod UserPlace
pub mod ServerPlace
