pub mod AttributeLemmas
pub mod AttributeRows
pub mod TagLemmas
pub mod ValueLemmas
