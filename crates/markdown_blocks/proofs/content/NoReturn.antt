-- No carriage return stands in the content of code and HTML.
use Rattle.std.proofs.Common.{ℕ, zero, suc, false, ◌||◌, ◌==◌, ◌+◌, ◌≡◌, List, [], ◌∷◌, ◌++◌, length, take, drop, replicate}
use Rattle.std.proofs.Common.{refl, sym, ap, ◌∙◌, subst, inl, inr}
use Rattle.std.specs.List.{AllByRecursion, flat_map}
use Rattle.std.proofs.lemmas.Bool.{cases_Bool}
use Rattle.std.proofs.lemmas.List.{take-append-drop}
use Rattle.std.proofs.lemmas.List.Folds.{list_any-append, list_any_at}
use Rattle.markdown_scanners_tree.specs.Ascii.{carriage_return, space}
use Rattle.markdown_scanners_tree.specs.line.State.{space_within}
use Rattle.markdown_blocks.specs.content.Content.{HasNoReturn, IsCodeOrHtml, IsContent, Placed, content_len, text_of}
use Rattle.markdown_blocks.specs.content.Parts.{AreParts, Part, ended, first_offset, has_return, head_of}
use Rattle.markdown_blocks.specs.content.Parts.{later_parts, later_offset, moved, part_at, text_offset, written}
use Rattle.markdown_blocks.specs.declared.blocks.BlockKind.{BlockKind}
use Rattle.markdown_blocks.specs.declared.blocks.BlockKind.TheVariants.{Indented, Fenced, Html}
use Rattle.markdown_blocks.specs.declared.containers.Container.{Container}
use Rattle.markdown_blocks.proofs.content.EndingLemmas.{all_both, head_none, none_in_parts}

none_in_both : (xs ys : List ℕ) → has_return xs ≡ false → has_return ys ≡ false → has_return (xs ++ ys) ≡ false
none_in_both xs ys first second = list_any-append (λ b. b == carriage_return) xs ys ∙ ap (λ some. some || has_return ys) first ∙ second

spaces_none : (n : ℕ) → has_return (replicate n space) ≡ false
spaces_none zero = refl
spaces_none (suc n) = spaces_none n

abbrev HasNone : Part → Type 0
HasNone p = has_return (text_of p) ≡ false

-- a part with spaces and bytes without one
part_none : (p : Part) → p.filler ≡ space → has_return p.bytes ≡ false → HasNone p
part_none p spaces none =
    let columns : has_return (replicate p.columns p.filler) ≡ false =
    ap (λ f. has_return (replicate p.columns f)) spaces ∙ spaces_none p.columns in
    none_in_both (replicate p.columns p.filler) p.bytes columns none

ended_have : (p : Part) → p.filler ≡ space → AllByRecursion HasNone (ended p)
ended_have p spaces = elim (cases_Bool (has_return p.bytes)) [
  | inl returns ↦ rw returns (part_none (head_of p) spaces (head_none p.bytes), (refl, tt))
  | inr none ↦ rw none (part_none p spaces none, tt)
]

written_have : (kind : BlockKind) → IsCodeOrHtml kind → (p : Part) → p.filler ≡ space → AllByRecursion HasNone (written kind p)
written_have Indented is p spaces = ended_have p spaces
written_have (Fenced count byte) is p spaces = ended_have p spaces
written_have (Html kind) is p spaces = ended_have p spaces
written_have kind is p spaces = absurd is

module _ (kind : BlockKind) (is : IsCodeOrHtml kind) (outer : List Container) (indent : ℕ) where
  later_have : (before : ℕ) (lines : List (List ℕ)) → AllByRecursion HasNone (later_parts kind outer indent before lines)
  later_have before [] = tt
  later_have before (line ∷ lines) =
      let p = moved before (part_at (text_offset kind indent (later_offset kind outer line))) in
      all_both HasNone (written kind p) (later_parts kind outer indent (before + length line) lines) (written_have kind is p refl)
      (later_have (before + length line) lines)

parts_have : (kind : BlockKind) → IsCodeOrHtml kind → (outer : List Container) (kept : ℕ) (lines : List (List ℕ)) (parts : List Part)
    → AreParts kind outer kept lines parts → AllByRecursion HasNone parts
parts_have kind code outer kept [] parts none = subst (AllByRecursion HasNone) (sym none) tt
parts_have Indented code outer kept (line ∷ later) parts (inner, are, is) =
    subst (AllByRecursion HasNone) (sym is)
    (all_both HasNone _ _ (ended_have (part_at (text_offset Indented 0 (first_offset kept outer line))) refl)
    (later_have Indented tt outer 0 (length line) inner))
parts_have (Html kind) code outer kept (line ∷ later) parts (inner, are, is) =
    subst (AllByRecursion HasNone) (sym is)
    (all_both HasNone _ _ (ended_have (part_at (first_offset kept outer line)) refl) (later_have (Html kind) tt outer 0 (length line) inner))
parts_have (Fenced count byte) code outer kept (line ∷ later) parts (inner, are, is) =
    subst (AllByRecursion HasNone) (sym is)
    (later_have (Fenced count byte) tt outer (space_within 4 (first_offset kept outer line)) (length line) inner)
parts_have kind code outer kept (line ∷ later) parts are = absurd code

joined_none : (parts : List Part) → AllByRecursion HasNone parts → has_return (flat_map text_of parts) ≡ false
joined_none [] all = refl
joined_none (p ∷ parts) all = none_in_both (text_of p) (flat_map text_of parts) all.0 (joined_none parts all.1)

none_at : (text : List ℕ) → has_return text ≡ false → HasNoReturn text
none_at text none = λ offset low is.
    let some = list_any_at (λ b. b == carriage_return) text offset 0 low (ap (λ b. b == carriage_return) is) in cc

-- the content of code and HTML
pub content_none : (kind : BlockKind) → IsCodeOrHtml kind → (outer : List Container) (kept : ℕ) (lines : List (List ℕ)) (content : Placed)
    → IsContent kind outer kept lines content → HasNoReturn content.text
content_none kind code outer kept lines content is =
    let text = flat_map text_of is.parts in
    let n = content_len kind text in
    let whole : has_return (take n text ++ drop n text) ≡ false =
    ap has_return (take-append-drop n text) ∙ joined_none is.parts (parts_have kind code outer kept lines is.parts is.are_parts) in
    subst (λ (c : Placed). HasNoReturn c.text) (sym is.is_content) (none_at (take n text) (none_in_parts (take n text) (drop n text) whole).0)
