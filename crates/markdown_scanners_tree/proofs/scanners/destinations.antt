pub mod DestinationLemmas
