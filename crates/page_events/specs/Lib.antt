pub mod Texts
pub mod Json
pub mod Printed
pub mod Lines
