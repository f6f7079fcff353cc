pub mod Bytes
pub mod Content
pub mod Left
pub mod Parts
pub mod Seen
pub mod Segments
