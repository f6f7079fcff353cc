pub mod ItemRules
pub mod KnownBreaks
pub mod Outcome
pub mod PlainStep
pub mod State
pub mod run
