pub mod Followed
pub mod ListLemmas
pub mod PageLemmas
