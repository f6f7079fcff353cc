pub mod DelimiterRows
