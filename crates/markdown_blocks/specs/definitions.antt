pub mod Content
pub mod Definitions
pub mod LabelEnds
