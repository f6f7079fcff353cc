pub mod Alerts
pub mod Alignments
pub mod Events
pub mod Extensions
pub mod Headings
pub mod Links
pub mod Tags
