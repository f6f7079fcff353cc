pub mod FirstPiece
