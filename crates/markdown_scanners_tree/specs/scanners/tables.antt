pub mod BegunRow
pub mod DelimiterRow
pub mod private
