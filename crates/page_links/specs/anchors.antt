pub mod Anchors
pub mod private
