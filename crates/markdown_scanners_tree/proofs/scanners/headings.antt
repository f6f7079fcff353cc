pub mod HeadingLemmas
pub mod OneHeading
pub mod Rows
