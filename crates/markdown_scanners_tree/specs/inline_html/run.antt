pub mod KeptGuard
pub mod Passed
pub mod Run
pub mod private
