pub mod Containers
pub mod Footnotes
pub mod ItemMarkers
pub mod private
