pub mod AddressParts
pub mod EscapeLemmas
