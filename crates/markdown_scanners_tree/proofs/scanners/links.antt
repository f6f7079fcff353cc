pub mod BareLemmas
pub mod LinkLemmas
pub mod OneDestination
pub mod PointedLemmas
pub mod Rows
