pub mod ForCallers
pub mod LookupLemmas
pub mod PartsCheck
pub mod PlacesCheck
pub mod RowFacts
pub mod TheTables
