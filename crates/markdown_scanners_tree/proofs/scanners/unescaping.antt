pub mod FirstPieceLemmas
pub mod PieceLemmas
