pub mod Autolink
pub mod DestinationEnds
pub mod FoundDestination
pub mod LinkDestination
