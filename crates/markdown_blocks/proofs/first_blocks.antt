pub mod AlertLemmas
pub mod FirstLemmas
pub mod OnePage
pub mod TaskLemmas
mod TaskRows
