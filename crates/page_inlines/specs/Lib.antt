pub mod BlockTexts
pub mod Labels
pub mod Printed
pub mod Lines
