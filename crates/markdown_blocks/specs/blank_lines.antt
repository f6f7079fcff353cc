pub mod BlankLines
