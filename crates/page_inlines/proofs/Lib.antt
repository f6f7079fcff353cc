pub mod BlockLemmas
pub mod TextLemmas
pub mod PageLemmas
