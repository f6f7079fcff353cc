pub mod NoSkipTags
pub mod OnePiece
pub mod Openings
pub mod PieceEnds
pub mod PlainLengths
pub mod References
pub mod TextRuns
