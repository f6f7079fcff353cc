-- What is gathered so far has a label's key, or a later label has, exactly where some label has it.
use Rattle.std.proofs.Common.{ℕ, List, ◌≡◌, ◌||◌, drop}
use Rattle.std.specs.BTreeSet.{contains_text}
use Rattle.std.specs.List.{list_any}
use Rattle.markdown_scanners_c.specs.KnownLabels.{has_key}
use Rattle.markdown_scanners_c.proofs.known_labels.KnownLabels.new.Given as goal

abbrev pub invariant-loop-label : goal.invariant-loop-label
invariant-loop-label l = (key : List ℕ)
    → (contains_text l.keys key || list_any (has_key key) (drop l.label-index l.labels)) ≡ list_any (has_key key) l.labels
