pub mod ChainChanges
pub mod ChainLemmas
pub mod Rows
pub mod TruncateLemmas
