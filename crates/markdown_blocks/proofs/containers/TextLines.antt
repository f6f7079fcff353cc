-- Lines that begin with text, where an item is open.
use Rattle.std.proofs.Common.{ℕ, Bool, false, ◌==◌, ◌≡◌, ◌<◌, List, ◌∷◌, Option, Some, None, ap, ◌∙◌, arith}
use Rattle.std.specs.Prelude.{min, suc, ◌&&◌, if◌then◌else◌}
use Rattle.std.specs.List.{list_all}
use Rattle.std.proofs.lemmas.Bool.Decides.{nat_tests}
use Rattle.markdown_scanners_tree.specs.Bytes.{is_line_ending, is_space_or_tab, line_head}
use Rattle.markdown_scanners_tree.specs.line.ItemRules.{start_of}
use Rattle.markdown_scanners_tree.specs.line.State.{LineState, after_space, leading_spaces, rest_of, space_within}
use Rattle.markdown_scanners_tree.proofs.line.SpaceLemmas.{none_at_front}
use Rattle.markdown_scanners_tree.proofs.line.WrittenLemmas.{head-cons}
use Rattle.markdown_blocks.specs.blank_lines.BlankLines.{is_blank}
use Rattle.markdown_blocks.specs.containers.Containers.{match_line, go_on, within}
use Rattle.markdown_blocks.specs.declared.containers.Container.{Container}
use Rattle.markdown_blocks.specs.declared.containers.Container.TheVariants.{Item}
use Rattle.markdown_blocks.specs.declared.containers.ListItem.{ListItem}

-- an item has some columns of space on each later line
pub ends_item : (item : ListItem) (inner : List Container) (byte : ℕ) (rest : List ℕ) → 0 < item.width → 32 < byte
    → match_line (Item item ∷ inner) (byte ∷ rest) ≡ record { kept = 0; state = start_of (byte ∷ rest) }
ends_item item inner byte rest some text =
    let line = byte ∷ rest in
    let s = start_of line in
    let goes : is_line_ending byte ≡ false = grind (arith, nat_tests) in
    let plain : is_space_or_tab byte ≡ false = grind (arith, nat_tests) in
    let blank : is_blank line ≡ false = ap (list_all is_space_or_tab) (head-cons byte rest goes)
    ∙ ap (λ t. t && list_all is_space_or_tab (line_head rest)) plain in
    let none : leading_spaces (rest_of s) ≡ 0 = none_at_front line 0 plain in
    let zero : space_within item.width s ≡ 0 = ap (min item.width) none ∙ (let least : min item.width 0 ≡ 0 = omega arith in least) in
    let short : (space_within item.width s == item.width) ≡ false = grind (arith, nat_tests) in
    let ends : within (Item item) false s ≡ None = ap (λ t. if t then Some (false, after_space item.width s) else None) short in
    ap (λ b. go_on b (Item item ∷ inner) s) blank
    ∙ ap (λ (w : Option (Bool × LineState)). elim w [
      | Some r ↦ (let more = go_on r.0 inner r.1 in record { kept = suc more.kept; state = more.state })
      | None ↦ record { kept = 0; state = s }
    ]) ends
