pub mod Forest
pub mod Lends
pub mod Linked
pub mod Order
pub mod Tree
pub mod Truncate
