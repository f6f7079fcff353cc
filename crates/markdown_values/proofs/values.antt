pub mod ExtensionLemmas
