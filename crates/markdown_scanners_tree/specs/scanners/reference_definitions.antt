pub mod FoundDefinition
pub mod ReferenceDefinition
pub mod private
