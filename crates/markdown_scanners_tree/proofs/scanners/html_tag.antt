pub mod KeptCopy
pub mod OneTag
pub mod Rows
pub mod TagAlone
pub mod TagBuffer
pub mod TagScan
