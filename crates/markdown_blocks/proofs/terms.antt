pub mod TermLemmas
