pub mod BoundaryFacts
pub mod CutFacts
pub mod FilledFacts
pub mod InlineFacts
pub mod LabelEnds
pub mod PieceFacts
pub mod TargetEnds
