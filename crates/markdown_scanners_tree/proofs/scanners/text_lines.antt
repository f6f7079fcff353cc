pub mod LineSteps
pub mod Rows
