mod OffsetLemmas
mod PositionLemmas
