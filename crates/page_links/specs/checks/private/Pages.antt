-- The anchors of pages that are kept by their paths.
use Rattle.std.specs.Prelude.{ℕ, ◌≡◌, List, Some, Result, String}
use Rattle.std.specs.BTreeMap.{BTreeMap, get_by_text}
use Rattle.markdown_values.specs.declared.values.extensions.Extensions.{Extensions}
use Rattle.program_faults.specs.declared.reasons.Reason.{Reason}
use Rattle.page_links.specs.anchors.Anchors.{HasAnchors}
use Rattle.page_links.specs.checks.Checks.{AreAnchorsAt}

module _ (reads : List ℕ → Result (List ℕ) Reason → Type 0) (setting : Extensions) where
  -- the same texts are kept as the anchors of the page of this path
  abbrev pub AreKept : List ℕ → List (List ℕ) → Type 0
  AreKept path kept = (anchors : List (List ℕ)) × AreAnchorsAt reads setting path anchors × HasAnchors kept anchors

  -- What is kept by a path are the anchors of its page.
  abbrev pub AreAllKept : {Y : Type 0} → BTreeMap (String Y) (List (List ℕ)) → Type 0
  AreAllKept pages = (path : List ℕ) (kept : List (List ℕ)) → get_by_text pages path ≡ Some kept → AreKept path kept
