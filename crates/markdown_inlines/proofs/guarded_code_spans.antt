pub mod LastStringLemmas
