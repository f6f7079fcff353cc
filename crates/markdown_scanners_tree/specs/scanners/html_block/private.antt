pub mod BlockRows
