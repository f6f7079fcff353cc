pub mod Cells
pub mod Contents
pub mod Pieces
