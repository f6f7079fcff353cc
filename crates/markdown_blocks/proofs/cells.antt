pub mod CellLemmas
pub mod CutLemmas
pub mod LawLemmas
pub mod PieceLaws
pub mod Rows
