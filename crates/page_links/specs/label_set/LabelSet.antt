-- Sets of labels. (CommonMark 0.31.2, section 6.3)
use Rattle.std.specs.Prelude.{ℕ, Bool, ◌≡◌, List}
use Rattle.std.specs.List.{list_any}
use Rattle.std.specs.Str.{bytes_eq}
use Rattle.markdown_scanners_tree.specs.linklabel.Key.{key_bytes}
use Rattle.page_links.specs.labels.Labels.{is_among}

-- the case folding of a label is one of these
abbrev pub has : List (List ℕ) → List ℕ → Bool
has foldings label = list_any (bytes_eq (key_bytes label)) foldings

-- These are the case foldings of these labels: a label's is one of them where one of the labels matches it.
abbrev pub HasLabels : List (List ℕ) → List (List ℕ) → Type 0
HasLabels foldings labels = (label : List ℕ) → has foldings label ≡ is_among labels label
