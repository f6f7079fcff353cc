pub mod CodeContentLemmas
pub mod EightLanes
