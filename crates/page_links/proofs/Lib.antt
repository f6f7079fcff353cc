mod AnchorLemmas
mod DefinitionLemmas
mod LabelSetLemmas
mod LawLemmas
mod LinkLemmas
mod PageLemmas
mod TargetLemmas
mod TextLemmas
