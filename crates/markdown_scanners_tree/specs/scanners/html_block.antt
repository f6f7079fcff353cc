pub mod HtmlBlock
pub mod private
