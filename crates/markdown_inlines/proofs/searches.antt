pub mod SearchLemmas
mod SearchRows
