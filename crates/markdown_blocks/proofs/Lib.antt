pub mod ForCallers
pub mod laws
