pub mod MetadataLemmas
pub mod OneMetadata
pub mod Rows
