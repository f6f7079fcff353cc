pub mod IndentLemmas
pub mod Rows
