pub mod ListItem
pub mod ListMarker
