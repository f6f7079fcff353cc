pub mod PlainRunLemmas
pub mod StateRunLemmas
