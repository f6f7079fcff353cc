pub mod Alerts
pub mod FirstBlocks
pub mod Tasks
pub mod Waiting
