pub mod Unescaping
pub mod private
