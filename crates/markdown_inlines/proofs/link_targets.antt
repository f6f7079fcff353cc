pub mod TargetLemmas
pub mod OneTarget
