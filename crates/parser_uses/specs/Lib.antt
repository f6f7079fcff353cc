pub mod Breaks
pub mod Extensions
pub mod Markers
