pub mod MeaningLemmas
pub mod RestLemmas
