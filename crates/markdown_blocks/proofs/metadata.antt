pub mod MetadataLemmas
pub mod OneMetadata
