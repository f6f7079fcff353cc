pub mod ClosingTagReading
pub mod OpenTagReading
pub mod TagEnds
pub mod TagReading
pub mod TagRuns
pub mod TagWhole
