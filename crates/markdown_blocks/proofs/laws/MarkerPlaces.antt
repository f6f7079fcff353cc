-- The offset after a list marker.
use Rattle.std.proofs.Common.{ℕ, Bool, true, false, ◌==◌, ◌+◌, ◌≡◌, ◌≤◌, List, [], ◌∷◌, ◌++◌, length}
use Rattle.std.proofs.Common.{Some, refl, ap, ◌∙◌, subst, arith, inr}
use Rattle.std.specs.List.{list_all}
use Rattle.std.proofs.lemmas.Bool.Decides.{nat_tests}
use Rattle.markdown_scanners_tree.specs.Ascii.{greater_than_sign}
use Rattle.markdown_scanners_tree.specs.Bytes.{begins_with, is_digit, is_space_or_tab}
use Rattle.markdown_scanners_tree.specs.line.ItemRules.{start_of}
use Rattle.markdown_scanners_tree.specs.line.Outcome.{space_or_end_follows}
use Rattle.markdown_scanners_tree.specs.line.State.{LineState, unscanned, bytes_further, space_within, after_space}
use Rattle.markdown_scanners_tree.specs.scanners.Breaks.{is_thematic_break}
use Rattle.markdown_scanners_tree.specs.scanners.list_items.ListItem.{IsListMarker, bullet, ordered}
use Rattle.markdown_scanners_tree.specs.scanners.list_items.ListMarker.{Marker, list_marker}
use Rattle.markdown_scanners_tree.proofs.PrefixLemmas.{both_true}
use Rattle.markdown_scanners_tree.proofs.line.ItemLemmas.{marker-is}
use Rattle.markdown_blocks.specs.blank_lines.BlankLines.{is_blank}
use Rattle.markdown_blocks.specs.containers.Containers.{begun_at, begun_after, either_begun, extension_of, item_of}
use Rattle.markdown_blocks.specs.containers.ItemMarkers.{further_spaces, item_outcome, item_outcome_by}
use Rattle.markdown_values.specs.declared.values.extensions.Extensions.{Extensions}
use Rattle.markdown_blocks.specs.declared.containers.Container.TheVariants.{Item}
use Rattle.markdown_blocks.specs.laws.Items.{Lead, IsLead}
use Rattle.markdown_blocks.proofs.containers.ContainerLemmas.{near}
use Rattle.markdown_blocks.proofs.laws.Places.{spaces, IsAt, at_start, at_bytes, at_space, found_there}

-- a list marker begins with no space, no tab and no `>`
abbrev begins_plainly : List ℕ → Type 0
begins_plainly bs = (begins_with is_space_or_tab bs ≡ false) × (begins_with (λ b. b == greater_than_sign) bs ≡ false)

digit_front : (digits : List ℕ) (d : ℕ) (rest : List ℕ) → 1 ≤ length digits → list_all is_digit digits ≡ true
    → begins_plainly ((digits ++ d ∷ []) ++ rest)
digit_front [] d rest some all = absurd (omega (arith, some))
digit_front (b ∷ digits) d rest some all =
    let digit : is_digit b ≡ true = (both_true (is_digit b) (list_all is_digit digits) all).0 in
    let plain : is_space_or_tab b ≡ false = grind (arith, nat_tests) in
    let other : (b == greater_than_sign) ≡ false = grind (arith, nat_tests) in
    (plain, other)

marker_front : (marker : List ℕ) (delimiter start : ℕ) (rest : List ℕ) → IsListMarker marker delimiter start → begins_plainly (marker ++ rest)
marker_front marker delimiter start rest (bullet b is) =
    let plain : is_space_or_tab b ≡ false = grind (arith, nat_tests) in
    let other : (b == greater_than_sign) ≡ false = grind (arith, nat_tests) in
    (plain, other)
marker_front marker delimiter start rest (ordered digits d some few all is) = digit_front digits d rest some all

-- a line with a marker, and this after it
module _ (lead : Lead) (is : IsLead lead) (changed tail : List ℕ) (parts : changed ≡ spaces lead.indent ++ (lead.marker ++ tail)) where
  abbrev pub before_marker : LineState
  before_marker = after_space 4 (start_of changed)

  abbrev pub after_marker : LineState
  after_marker = bytes_further (length lead.marker) before_marker

  plain : begins_plainly (lead.marker ++ tail)
  plain = marker_front lead.marker lead.delimiter lead.start tail is.is_marker

  at_front : IsAt (start_of changed) (spaces lead.indent ++ (lead.marker ++ tail)) 0
  at_front = subst (λ bs. IsAt (start_of changed) bs 0) parts (at_start changed)

  indent_there : space_within 4 (start_of changed) ≡ lead.indent
  indent_there = found_there (start_of changed) lead.indent (lead.marker ++ tail) 0 at_front 4 (omega (arith, is.few)) (inr plain.0)

  at_marker : IsAt before_marker (lead.marker ++ tail) (0 + lead.indent)
  at_marker = at_space (start_of changed) lead.indent (lead.marker ++ tail) 0 at_front 4 (omega (arith, is.few)) (inr plain.0)

  pub at_tail : IsAt after_marker tail (0 + lead.indent + length lead.marker)
  at_tail = at_bytes before_marker lead.marker tail (0 + lead.indent) at_marker

  -- the item that begins there
  module _ (asked : Extensions) (next : LineState) (further width : ℕ) (begun : Bool) (no_break : is_thematic_break (lead.marker ++ tail) ≡ false)
      (follows : space_or_end_follows after_marker ≡ true) (further_are : further_spaces (after_space 1 after_marker) ≡ further)
      (is_next : after_space further (after_space 1 after_marker) ≡ next) (width_is : lead.indent + length lead.marker + 1 + further ≡ width)
      (blank : is_blank (unscanned next) ≡ begun) where
    found_here : item_outcome lead.indent before_marker ≡ record { answer = Some (lead.delimiter, lead.start, width); state = next }
    found_here =
        let m : Marker = record { width = length lead.marker; delimiter = lead.delimiter; start = lead.start } in
        let here : list_marker (unscanned before_marker) ≡ Some m =
        ap list_marker at_marker.text ∙ marker-is lead.marker tail lead.delimiter lead.start is.is_marker (λ one. no_break) in
        ap (item_outcome_by lead.indent before_marker) here ∙ rw (follows, further_are, is_next, width_is) refl

    begun_here : begun_after asked lead.indent before_marker
        ≡ Some (Item (record { delimiter = lead.delimiter; starts_blank = begun; width = width; start = lead.start }), next)
    begun_here =
        let far : (lead.indent == 4) ≡ false = near lead.indent (omega (arith, is.few)) in
        let other : begins_with (λ b. b == greater_than_sign) (unscanned before_marker) ≡ false =
        ap (begins_with (λ b. b == greater_than_sign)) at_marker.text ∙ plain.1 in
        rw (far, other) (ap (λ f. either_begun f (extension_of asked lead.indent before_marker)) (ap item_of found_here
        ∙ ap (λ b. Some (Item (record { delimiter = lead.delimiter; starts_blank = b; width = width; start = lead.start }), next)) blank))

    pub begun_there : begun_at asked (start_of changed)
        ≡ Some (Item (record { delimiter = lead.delimiter; starts_blank = begun; width = width; start = lead.start }), next)
    begun_there = ap (λ n. begun_after asked n before_marker) indent_there ∙ begun_here
