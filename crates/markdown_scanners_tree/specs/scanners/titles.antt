pub mod LinkTitle
pub mod private
