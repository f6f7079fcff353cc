pub mod WikiLinkLemmas
