pub mod BeginningLemmas
pub mod PageLemmas
pub mod ProgramLemmas
mod StopLemmas
