pub mod RestLemmas
pub mod TaskCuts
pub mod TaskLaws
pub mod TaskRanges
