pub mod HtmlKinds
pub mod private
