pub mod CutLemmas
pub mod DefinitionLemmas
pub mod GatherLemmas
pub mod LabelEnds
