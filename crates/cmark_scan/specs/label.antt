pub mod LabelRun
