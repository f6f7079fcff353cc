pub mod LineFeedLemmas
