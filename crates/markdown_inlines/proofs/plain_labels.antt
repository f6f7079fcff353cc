pub mod PlainLabelLemmas
