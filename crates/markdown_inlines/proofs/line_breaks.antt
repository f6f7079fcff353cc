pub mod LineBreakLemmas
