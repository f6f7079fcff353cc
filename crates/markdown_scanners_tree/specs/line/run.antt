pub mod PlainRun
pub mod StateRun
