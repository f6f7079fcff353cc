pub mod Checks
pub mod private
