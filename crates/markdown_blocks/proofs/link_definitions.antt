pub mod LentLemmas
pub mod ListedLemmas
pub mod NamedLemmas
