pub mod BreakBits
pub mod ClassBits
pub mod InDestination
