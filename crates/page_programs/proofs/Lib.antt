pub mod AnswerLemmas
pub mod CameLemmas
pub mod CutLemmas
pub mod EndLemmas
mod RunLemmas
mod WholeLemmas
pub mod ReadingLemmas
mod StopLemmas
mod ArgumentLemmas
mod AskedLemmas
