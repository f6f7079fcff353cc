-- Lemmas that other crates cite.
pub use Rattle.markdown_values.proofs.values.ExtensionLemmas.{all_known}
