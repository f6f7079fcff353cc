pub mod HtmlScans
