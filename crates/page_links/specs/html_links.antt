pub mod HtmlLinks
