pub mod RowPass
pub mod ScannedCells
