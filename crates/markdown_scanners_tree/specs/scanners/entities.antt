pub mod CharacterReference
pub mod TableText
pub mod private
