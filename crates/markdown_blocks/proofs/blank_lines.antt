pub mod BlankLemmas
pub mod Rows
