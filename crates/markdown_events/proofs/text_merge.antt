pub mod KeptLaws
pub mod MergeLaws
pub mod MergeLemmas
