pub mod html
pub mod label
pub mod printing
pub mod program
pub mod report
pub mod unescaping
pub mod words
