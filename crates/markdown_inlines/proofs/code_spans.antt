pub mod CodeSpanLemmas
