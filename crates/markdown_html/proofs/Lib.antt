pub mod AddressLemmas
pub mod BegunLemmas
pub mod EscapeLaws
pub mod EventLemmas
pub mod HtmlPrices
pub mod HtmlReads
pub mod LineLemmas
pub mod PagePrices
pub mod PushLemmas
pub mod ReadEnds
pub mod ReadEvents
pub mod ReadLeaves
mod ReadRows
pub mod ReadStanding
pub mod ReadStarts
pub mod ReadSteps
pub mod ReadTags
mod Rows
pub mod RunLemmas
pub mod SafeAddresses
pub mod SafeEvents
pub mod SafeLemmas
pub mod SafePages
mod SafeRows
mod UnreadRows
pub mod WholePages
