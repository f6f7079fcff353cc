-- Events that are followed one by one end the lists of their nodes.
use Rattle.std.proofs.Common.{ℕ, suc, Bool, true, false, not, ◌&&◌, ◌||◌, ◌==◌, List, [], ◌∷◌, ◌++◌, Option, Some, None, ◌≡◌, length, if◌then◌else◌}
use Rattle.std.proofs.Common.{refl, sym, ap, ◌∙◌, append_assoc}
use Rattle.std.specs.Option.{option_map, option_to_list}
use Rattle.markdown_blocks.specs.declared.containers.Container.{Container}
use Rattle.markdown_blocks.specs.declared.containers.Container.TheVariants.{Quote, Item, Footnote, TermDefinition}
use Rattle.markdown_blocks.specs.declared.lists.Level.{Level}
use Rattle.markdown_blocks.specs.declared.lists.ListBlock.{ListBlock}
use Rattle.markdown_blocks.specs.declared.lists.OpenList.{OpenList}
use Rattle.markdown_blocks.specs.events.Events.{Event, ends, LeafBlock}
use Rattle.markdown_blocks.specs.lists.Lists.{Nodes, nothing, leaf_then, container_then}
use Rattle.markdown_blocks.specs.blocks.Pages.{is_blank_kind}
use Rattle.markdown_blocks.specs.lists.Lists.{flatten, next_line, lines_passed, begins_blank}
use Rattle.markdown_blocks.specs.lists.Lists.{Child, ends_blank, last_end}
use Rattle.markdown_blocks.proofs.lists.Followed.{is_item_of, item_list, longer, list_after, list_before, lists_followed, parted_followed}
use Rattle.markdown_blocks.proofs.lists.Followed.{lists_are_followed, parted_is_followed}
use Rattle.markdown_blocks.specs.lists.Lists.{end_of, ends_blank_line, leaf_child, container_child, child_unless, children, lists_of}
use Rattle.markdown_blocks.specs.lists.Tracked.{at_start, Tracked, list_now, joins, loosened}
use Rattle.markdown_blocks.specs.lists.Tracked.{list_begun, begun, ends_with_block, level_within, leaf_read, lists_given}

or_false : (b : Bool) → (b || false) ≡ b
or_false true = refl
or_false false = refl

or_true : (b : Bool) → (b || true) ≡ true
or_true true = refl
or_true false = refl

and_true : (b : Bool) → (b && true) ≡ b
and_true true = refl
and_true false = refl

or_assoc : (a b c : Bool) → ((a || b) || c) ≡ (a || (b || c))
or_assoc true b c = refl
or_assoc false b c = refl

pub append_nil : (xs : List ListBlock) → xs ++ [] ≡ xs
append_nil [] = refl
append_nil (x ∷ xs) = ap (λ ys. x ∷ ys) (append_nil xs)

abbrev level_of : Bool → Bool → Option OpenList → Level
level_of item parted list = record { ends_with_block = item; is_parted = parted; list = list }

abbrev at : ℕ → ℕ → Bool → Bool → Level → List Level → Tracked
at line end blank fresh level outer = record {
  line = line;
  end = end;
  is_blank = blank;
  is_fresh = fresh;
  level = level;
  outer = outer;
}

abbrev now : Option OpenList → ℕ → List Level → Option ListBlock
now list end outer = option_map (list_now (length outer) end) list

-- what follows what stands in the innermost container: its end, unless it is the page
abbrev tail : List Level → List Event → List Event
tail [] later = []
tail (level ∷ outer) later = ends ∷ later

-- the lists after its end
abbrev lists_after : List Level → ℕ → ℕ → Bool → Bool → Bool → List Event → List ListBlock
lists_after [] line end blank item parted later = []
lists_after (level ∷ outer) line end blank item parted later =
    lists_given (at line (if item then end else line) (item && blank) false (record level { list = loosened level.list parted }) outer) later

-- the lists of the children that follow, and those after them
abbrev given : List Level → Option ListBlock → Bool → List Child → ℕ → ℕ → Bool → Bool → List Event → List ListBlock
given outer list blank later_ones line end item parted later =
    lists_followed (length outer) list blank later_ones
    ++ lists_after outer line (last_end end later_ones) (ends_blank blank later_ones) item
    (parted || parted_followed (length outer) list blank later_ones) later

given_one : (outer : List Level) (list : Option ListBlock) (blank : Bool) (child : Child) (others : List Child) (line end : ℕ) (item parted : Bool)
    → (later : List Event)
    → given outer list blank (child ∷ others) line end item parted later
    ≡ option_to_list (list_before list child) ++ (child.inside ++ given outer (list_after (length outer) list blank child) child.is_blank others line
    child.end item (parted || (blank && not (is_item_of list child.container))) later)
given_one outer list blank child others line end item parted later =
    let before = option_to_list (list_before list child) in
    let next = list_after (length outer) list blank child in
    let among = lists_followed (length outer) next child.is_blank others in
    let parted_later = parted_followed (length outer) next child.is_blank others in
    let after : Bool → List ListBlock = λ p. lists_after outer line (last_end child.end others) (ends_blank child.is_blank others) item p later in
    let together = after (parted || ((blank && not (is_item_of list child.container)) || parted_later)) in
    append_assoc (before ++ child.inside) among together
    ∙ append_assoc before child.inside (among ++ together)
    ∙ ap (λ p. before ++ (child.inside ++ (among ++ after p))) (sym (or_assoc parted (blank && not (is_item_of list child.container)) parted_later))

-- a blank line stands after the last block, or these nodes begin with one
abbrev marked : Bool → Bool → Bool → Bool
marked true blank begins = blank
marked false blank begins = blank || begins

marked_is : (fresh blank : Bool) → marked fresh blank false ≡ blank
marked_is true blank = refl
marked_is false blank = or_false blank

-- what a container's beginning does with the list before it
list_ended : (c : Container) (list : Option OpenList) (end : ℕ) (outer : List Level)
    → (if joins list c then None else now list end outer)
    ≡ (if is_item_of (now list end outer) (Some c) then None else now list end outer)
list_ended Quote list end outer = refl
list_ended Footnote list end outer = refl
list_ended (TermDefinition definition) list end outer = refl
list_ended (Item i) None end outer = refl
list_ended (Item i) (Some l) end outer = refl

joined : (c : Container) (list : Option OpenList) (end : ℕ) (outer : List Level) → joins list c ≡ is_item_of (now list end outer) (Some c)
joined Quote list end outer = refl
joined Footnote list end outer = refl
joined (TermDefinition definition) list end outer = refl
joined (Item i) None end outer = refl
joined (Item i) (Some l) end outer = refl

-- the list at its end
list_then : (c : Container) (list : Option OpenList) (blank : Bool) (outer : List Level) (before : ℕ) (child : Child)
    → now (loosened (begun (level_of false false list) c blank child.line).list child.is_parted) child.end outer
    ≡ (if is_item_of (now list before outer) (Some c) then longer (now list before outer) blank child else item_list (length outer) child (Some c))
list_then Quote list blank outer before child = refl
list_then Footnote list blank outer before child = refl
list_then (TermDefinition definition) list blank outer before child = refl
list_then (Item i) None blank outer before child = refl
list_then (Item i) (Some l) blank outer before child = alike (l.delimiter == i.delimiter)
  where
    alike : (q : Bool)
        → now (loosened (if q then loosened (Some l) blank else list_begun (Item i) child.line) child.is_parted) child.end outer
        ≡ (if q then longer (now (Some l) before outer) blank child else item_list (length outer) child (Some (Item i)))
    alike true = refl
    alike false = refl

end_is : (c : Container) (line passed : ℕ) (content : List Child)
    → (if ends_with_block c then last_end line content else passed) ≡ end_of c line passed content
end_is Quote line passed content = refl
end_is Footnote line passed content = refl
end_is (TermDefinition definition) line passed content = refl
end_is (Item i) line passed content = refl

blank_is : (c : Container) (content : List Child) → (ends_with_block c && ends_blank false content) ≡ ends_blank_line c content
blank_is Quote content = refl
blank_is Footnote content = refl
blank_is (TermDefinition definition) content = refl
blank_is (Item i) content = refl

-- the lists of nodes, and those after the end of what they stand in
abbrev AreFound : Nodes → Type 0
AreFound nodes = (line end : ℕ) (blank fresh item parted : Bool) (list : Option OpenList) (outer : List Level) (later : List Event)
    → lists_given (at line end blank fresh (level_of item parted list) outer) (flatten nodes ++ tail outer later)
    ≡ given outer (now list end outer) (marked fresh blank (begins_blank nodes)) (children fresh (length outer) line nodes) (lines_passed line nodes)
    end item parted later

found_nothing : AreFound nothing
found_nothing line end blank fresh item parted list [] later = sym (append_nil _)
found_nothing line end blank true item parted list (level ∷ outer) later =
    ap (λ p. option_to_list (now list end (level ∷ outer)) ++ lists_after (level ∷ outer) line end blank item p later) (sym (or_false parted))
found_nothing line end blank false item parted list (level ∷ outer) later =
    ap (λ p. option_to_list (now list end (level ∷ outer)) ++ lists_after (level ∷ outer) line end blank item p later) (sym (or_false parted))
    ∙ ap (λ b. option_to_list (now list end (level ∷ outer)) ++ lists_after (level ∷ outer) line end b item (parted || false) later) (sym (or_false blank))

module _ (block : LeafBlock) (nodes : Nodes) (found : AreFound nodes) where
  -- a block, in place of blank lines
  found_block : (line end : ℕ) (blank marked_now item parted : Bool) (list : Option OpenList) (outer : List Level) (later : List Event) → marked_now ≡ blank
      → option_to_list (now list end outer)
      ++ lists_given (at (next_line block) (next_line block) false false (level_of item (parted || blank) None) outer) (flatten nodes ++ tail outer later)
      ≡ given outer (now list end outer) marked_now (leaf_child block line (begins_blank nodes) ∷ children false (length outer) (next_line block) nodes)
      (lines_passed (next_line block) nodes) end item parted later
  found_block line end blank marked_now item parted list outer later same =
      let here = next_line block in
      let others = children false (length outer) here nodes in
      let after : Bool → List ListBlock = λ b. option_to_list (now list end outer)
      ++ given outer None (begins_blank nodes) others (lines_passed here nodes) here item (parted || b) later in
      ap (λ ls. option_to_list (now list end outer) ++ ls) (found here here false false item (parted || blank) None outer later)
      ∙ ap after (sym same ∙ sym (and_true marked_now))
      ∙ sym (given_one outer (now list end outer) marked_now (leaf_child block line (begins_blank nodes)) others (lines_passed here nodes) end item parted later)

  found_leaf : AreFound (leaf_then block nodes)
  found_leaf line end blank fresh item parted list outer later = by_kind (is_blank_kind block.kind) fresh
    where
      by_kind : (k fresh : Bool)
          → option_to_list (leaf_read (k && not fresh) block (at line end blank fresh (level_of item parted list) outer)).list
          ++ lists_given (leaf_read (k && not fresh) block (at line end blank fresh (level_of item parted list) outer)).state
          (flatten nodes ++ tail outer later)
          ≡ given outer (now list end outer) (marked fresh blank k)
          (child_unless (k && not fresh) (leaf_child block line (begins_blank nodes)) (children false (length outer) (next_line block) nodes))
          (lines_passed (next_line block) nodes) end item parted later
      by_kind true false =
          found (next_line block) end true false item parted list outer later
          ∙ ap (λ b. given outer (now list end outer) b (children false (length outer) (next_line block) nodes) (lines_passed (next_line block) nodes) end
          item parted later) (sym (or_true blank))
      by_kind true true = found_block line end blank blank item parted list outer later refl
      by_kind false true = found_block line end blank blank item parted list outer later refl
      by_kind false false = found_block line end blank (blank || false) item parted list outer later (or_false blank)

module _ (c : Container) (offset : ℕ) (inner nodes : Nodes) (found_in : AreFound inner) (found : AreFound nodes) where
  found_container : AreFound (container_then c offset inner nodes)
  found_container line end blank fresh item parted list outer later =
      let marked_now = marked fresh blank false in
      let content = children true (suc (length outer)) line inner in
      let passed = lines_passed line inner in
      let child = container_child c (suc (length outer)) line passed (begins_blank nodes) content in
      let others = children false (length outer) passed nodes in
      let far = lines_passed passed nodes in
      let level = begun (level_of item parted list) c blank line in
      let before = option_to_list (if joins list c then None else now list end outer) in
      let after = flatten nodes ++ tail outer later in
      let end_now = if ends_with_block c then last_end line content else passed in
      let blank_now = ends_with_block c && ends_blank false content in
      let list_then_now = loosened level.list child.is_parted in
      let among = child.inside in
      let closing : Bool → List ListBlock = λ p.
      lists_after (level ∷ outer) passed (last_end line content) (ends_blank false content) (ends_with_block c) p after in
      let after_child : Option ListBlock → Bool → ℕ → Bool → List ListBlock = λ o b e q.
      given outer o (b || begins_blank nodes) others far e item (parted || q) later in
      ap (λ es. before ++ lists_given (at line line false true (level_within c) (level ∷ outer)) es)
      (append_assoc (flatten inner) (ends ∷ flatten nodes) (tail outer later))
      ∙ ap (λ ls. before ++ ls) (found_in line line false true (ends_with_block c) false None (level ∷ outer) after)
      ∙ ap (λ ls. before ++ (ls ++ closing (parted_followed (suc (length outer)) None false content))) (lists_are_followed (suc (length outer)) content)
      ∙ ap (λ p. before ++ (among ++ closing p)) (parted_is_followed (suc (length outer)) content)
      ∙ ap (λ ls. before ++ (among ++ ls)) (found passed end_now blank_now false item level.is_parted list_then_now outer later)
      ∙ ap (λ e. before ++ (among ++ after_child (now list_then_now e outer) blank_now e (blank && not (joins list c)))) (end_is c line passed content)
      ∙ ap (λ b. before ++ (among ++ after_child (now list_then_now child.end outer) b child.end (blank && not (joins list c)))) (blank_is c content)
      ∙ ap (λ o. before ++ (among ++ after_child o (ends_blank_line c content) child.end (blank && not (joins list c))))
      (list_then c list blank outer end child)
      ∙ ap (λ j. before ++ (among ++ after_child (list_after (length outer) (now list end outer) blank child) (ends_blank_line c content) child.end
      (blank && not j)))
      (joined c list end outer)
      ∙ ap (λ o. option_to_list o ++ (among ++ after_child (list_after (length outer) (now list end outer) blank child) (ends_blank_line c content) child.end
      (blank && not (is_item_of (now list end outer) (Some c))))) (list_ended c list end outer)
      ∙ ap (λ m. option_to_list (list_before (now list end outer) child) ++ (among ++ after_child (list_after (length outer) (now list end outer) m child)
      (ends_blank_line c content) child.end (m && not (is_item_of (now list end outer) (Some c))))) (sym (marked_is fresh blank))
      ∙ sym (given_one outer (now list end outer) marked_now child others far end item parted later)

lists_found : (nodes : Nodes) → AreFound nodes
lists_found nothing = found_nothing
lists_found (leaf_then block nodes) = found_leaf block nodes (lists_found nodes)
lists_found (container_then c offset inner nodes) = found_container c offset inner nodes (lists_found inner) (lists_found nodes)

-- the lists of a page's nodes
pub page_lists : (nodes : Nodes) → lists_given at_start (flatten nodes) ≡ lists_of nodes
page_lists nodes =
    ap (lists_given at_start) (sym (append_nothing (flatten nodes)))
    ∙ lists_found nodes 0 0 false true false false None [] [] ∙ append_nil (lists_followed 0 None false (children true 0 0 nodes))
    ∙ lists_are_followed 0 (children true 0 0 nodes)
  where
    append_nothing : (es : List Event) → es ++ [] ≡ es
    append_nothing [] = refl
    append_nothing (e ∷ es) = ap (λ es. e ∷ es) (append_nothing es)
