pub mod LastBytes
pub mod LeastPlaces
pub mod Openings
pub mod Rows
pub mod ScanBounds
pub mod Scans
pub mod TrueGuards
