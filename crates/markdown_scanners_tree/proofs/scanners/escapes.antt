pub mod Rows
pub mod UnitLemmas
