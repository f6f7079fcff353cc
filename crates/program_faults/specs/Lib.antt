pub mod Faults
pub mod Reasons
pub mod Steps
