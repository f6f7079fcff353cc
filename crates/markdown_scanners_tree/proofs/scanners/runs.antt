pub mod AcceptedLemmas
pub mod CallableLemmas
