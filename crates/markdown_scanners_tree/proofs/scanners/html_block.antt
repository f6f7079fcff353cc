pub mod BlockNames
pub mod BlockStart
pub mod CompareLemmas
