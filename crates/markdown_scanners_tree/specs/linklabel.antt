pub mod Answer
pub mod Key
pub mod Label
pub mod Length
pub mod private
