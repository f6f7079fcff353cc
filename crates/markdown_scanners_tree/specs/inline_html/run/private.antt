pub mod RunFields
