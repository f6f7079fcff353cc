pub mod DefinitionLemmas
pub mod GapLemmas
pub mod OneDefinition
pub mod Rows
