pub mod Endings
pub mod Leaves
pub mod Over
pub mod Pages
pub mod Tables
