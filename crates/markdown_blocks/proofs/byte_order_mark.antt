pub mod MarkLemmas
