pub mod Lent
pub mod LinkDefinitions
pub mod Listed
