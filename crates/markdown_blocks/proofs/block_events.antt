pub mod GivenLemmas
pub mod PartLemmas
