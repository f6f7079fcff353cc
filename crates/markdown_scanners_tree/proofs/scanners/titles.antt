pub mod BlankSteps
pub mod OneTitle
pub mod Rows
pub mod TitleLemmas
