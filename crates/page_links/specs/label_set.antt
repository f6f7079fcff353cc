pub mod LabelSet
