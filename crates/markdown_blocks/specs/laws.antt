pub mod Characters
pub mod FirstTexts
pub mod Held
pub mod Items
pub mod Order
pub mod Quotes
pub mod Sizes
pub mod Terms
