pub mod EndLemmas
pub mod NameCut
pub mod Rows
pub mod StartLemmas
