pub mod HtmlTag
pub mod KeptTag
