-- Counts that are kept by what is counted.
use Rattle.std.specs.Prelude.{ℕ, ◌≡◌, List, String}
use Rattle.std.specs.BTreeMap.{BTreeMap, get_by_text}
use Rattle.std.specs.Map.{count_at}
use Rattle.page_links.specs.anchors.Anchors.{counted}

-- Each is counted as often as it is there before; one that is not there is not kept.
abbrev pub AreCounts : {Y : Type 0} → BTreeMap (String Y) ℕ → List (List ℕ) → Type 0
AreCounts counts before = (slug : List ℕ) → count_at (get_by_text counts) slug ≡ counted before slug
