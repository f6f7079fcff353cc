pub mod EventLemmas
pub mod LabelLemmas
pub mod OneEvents
pub mod ShownLemmas
