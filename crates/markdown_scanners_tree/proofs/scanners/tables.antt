pub mod CellLemmas
pub mod CellScan
pub mod DelimiterRowLemmas
pub mod OneRow
pub mod RowLemmas
pub mod RowPassLemmas
