pub mod FrontLemmas
pub mod LineCuts
pub mod TakenLemmas
