pub mod FaultLemmas
pub mod ReasonLemmas
pub mod StepLemmas
