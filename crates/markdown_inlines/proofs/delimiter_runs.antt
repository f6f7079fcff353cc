pub mod DelimiterRunLemmas
