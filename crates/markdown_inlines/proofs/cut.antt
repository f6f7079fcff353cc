pub mod CutLemmas
pub mod SourceLemmas
pub mod LinkLaws
pub mod OneCut
pub mod StrikethroughLaws
pub mod WikilinkLaws
pub mod WrittenLemmas
