pub mod Attributes
pub mod StartTags
pub mod Values
