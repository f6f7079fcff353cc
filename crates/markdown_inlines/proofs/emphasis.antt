pub mod BoundLemmas
pub mod EmphasisLemmas
pub mod MadeLemmas
pub mod NestLemmas
