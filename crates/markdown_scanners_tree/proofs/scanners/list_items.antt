pub mod ListItemLemmas
pub mod OneItem
pub mod Rows
