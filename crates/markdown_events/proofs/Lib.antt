pub mod ForCallers
pub mod found
mod InsecureCharacters
pub mod MeaningSizes
