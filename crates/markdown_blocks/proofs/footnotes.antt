pub mod ColumnsLemmas
pub mod FootnoteLemmas
