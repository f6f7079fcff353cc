pub mod EmailLemmas
