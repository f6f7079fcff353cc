pub mod LabelRoom
pub mod LabelText
pub mod NoSpace
pub mod ScanReturned
pub mod Searched
pub mod Sides
pub mod SureRun
