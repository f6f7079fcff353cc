pub mod AddedLemmas
pub mod CellCounts
pub mod CellLemmas
pub mod FilledLemmas
pub mod RowLemmas
pub mod TableCosts
pub mod TableCuts
pub mod TableRanges
