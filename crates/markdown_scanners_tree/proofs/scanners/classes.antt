pub mod ClassLemmas
pub mod DestinationBytes
pub mod Rows
