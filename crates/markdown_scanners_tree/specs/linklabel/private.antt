pub mod NextPart
pub mod Pass
pub mod Run
pub mod Steady
pub mod Words
