pub mod RowCuts
pub mod RowLemmas
pub mod TableLaws
