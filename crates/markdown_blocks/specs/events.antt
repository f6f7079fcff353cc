pub mod Events
pub mod Given
pub mod Iterated
pub mod Labels
pub mod Shown
pub mod Used
