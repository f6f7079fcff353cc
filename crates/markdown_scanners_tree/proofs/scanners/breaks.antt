pub mod BreakLemmas
pub mod BreakScan
pub mod Rows
