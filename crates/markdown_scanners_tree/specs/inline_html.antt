pub mod CountedText
pub mod Guard
pub mod InlineHtml
pub mod run
