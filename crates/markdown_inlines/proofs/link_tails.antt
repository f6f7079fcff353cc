pub mod LinkTailLemmas
pub mod OneLinkTail
