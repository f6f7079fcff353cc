pub mod DigitLemmas
pub mod ReferenceLemmas
pub mod ReferenceUnique
pub mod Rows
pub mod TableLemmas
