pub mod FirstLemmas
pub mod HeadingLemmas
pub mod InnerLemmas
pub mod NextLemmas
pub mod PlaceLemmas
