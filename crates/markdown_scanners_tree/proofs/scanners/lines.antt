pub mod BlankLemmas
pub mod EndingLanes
pub mod LaneLemmas
pub mod LineLemmas
pub mod OneQuoteStart
pub mod Rows
