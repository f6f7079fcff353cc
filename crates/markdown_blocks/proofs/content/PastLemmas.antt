-- The offsets of a content rise.
use Rattle.std.proofs.Common.{ℕ, zero, suc, Bool, true, false, ◌==◌, ◌+◌, ◌-◌, ◌<◌, ◌≤◌, ◌≡◌, List, [], ◌∷◌, ◌++◌, length, take, replicate, if◌then◌else◌}
use Rattle.std.proofs.Common.{refl, sym, ap, subst, inl, inr, arith, append_assoc, ◌⊎◌}
use Rattle.std.specs.Prelude.{⊤, slice_index}
use Rattle.markdown_values.specs.declared.values.HeadingLevel.{HeadingLevel}
use Rattle.std.specs.List.{flat_map, range_with_len}
use Rattle.std.proofs.lemmas.Bool.{eqb-true}
use Rattle.std.proofs.lemmas.Bool.Decides.{leb_tells}
use Rattle.markdown_scanners_tree.specs.Ascii.{space}
use Rattle.markdown_blocks.specs.content.Content.{IsContent, Placed, offsets_of, text_of}
use Rattle.markdown_blocks.specs.content.Parts.{AreParts, Part, later_parts}
use Rattle.markdown_blocks.specs.declared.blocks.BlockKind.{BlockKind}
use Rattle.markdown_blocks.specs.declared.blocks.BlockKind.TheVariants.{Heading, Paragraph, Setext}
use Rattle.markdown_blocks.specs.declared.containers.Container.{Container}
use Rattle.markdown_blocks.proofs.content.ByteLemmas.{StandAfter, parts_after}

-- No offset stands before this one. Each stands after the one before it, or there where that is the offset of a space, which may be a
-- column of the same tab.
abbrev pub RisePast : ℕ → List ℕ → List ℕ → Type 0
RisePast from [] offsets = ⊤
RisePast from (b ∷ bytes) [] = ⊤
RisePast from (b ∷ bytes) (offset ∷ offsets) = (from ≤ offset) × RisePast (if b == space then offset else suc offset) bytes offsets

earlier_past : (from to : ℕ) (bytes offsets : List ℕ) → from ≤ to → RisePast to bytes offsets → RisePast from bytes offsets
earlier_past from to [] offsets less rise = tt
earlier_past from to (b ∷ bytes) [] less rise = tt
earlier_past from to (b ∷ bytes) (offset ∷ offsets) less rise = (omega (arith, less, rise.0), rise.1)

at_most_next : (test : Bool) (offset : ℕ) → (if test then offset else suc offset) ≤ offset + 1
at_most_next true offset = omega arith
at_most_next false offset = omega arith

run_past : (bytes : List ℕ) (offset : ℕ) (more rest : List ℕ) → RisePast (offset + length bytes) more rest
    → RisePast offset (bytes ++ more) (range_with_len offset (length bytes) ++ rest)
run_past [] offset more rest rise = earlier_past offset (offset + 0) more rest (omega arith) rise
run_past (b ∷ bytes) offset more rest rise = (
  omega arith,
  earlier_past (if b == space then offset else suc offset) (offset + 1) (bytes ++ more) _ (at_most_next (b == space) offset)
      (run_past bytes (offset + 1) more rest (subst (λ n. RisePast n more rest) (omega arith) rise)),
)

-- so many columns, of which one that is no space stands alone
columns_past : (n filler offset : ℕ) (more rest : List ℕ) → (filler ≡ space) ⊎ (n ≤ 1) → RisePast (suc offset) more rest
    → RisePast offset (replicate n filler ++ more) (replicate n offset ++ rest)
columns_past zero filler offset more rest are rise = earlier_past offset (suc offset) more rest (omega arith) rise
columns_past (suc n) filler offset more rest (inl spaces) rise =
    let next : (filler == space) ≡ true = ap (λ f. f == space) spaces in
    (omega arith, rw next (columns_past n filler offset more rest (inl spaces) rise))
columns_past (suc n) filler offset more rest (inr one) rise =
    let none : n ≡ 0 = omega (arith, one) in
    let last : RisePast (if filler == space then offset else suc offset) more rest =
    earlier_past (if filler == space then offset else suc offset) (suc offset) more rest (at_most (filler == space)) rise in
    (omega arith, subst (λ m. RisePast (if filler == space then offset else suc offset) (replicate m filler ++ more) (replicate m offset ++ rest)) (sym none) last)
  where
    at_most : (test : Bool) → (if test then offset else suc offset) ≤ suc offset
    at_most true = omega arith
    at_most false = omega arith

part_past : (from : ℕ) (p : Part) (more rest : List ℕ) → from ≤ p.offset → (0 < p.columns → from < p.offset)
    → (p.filler ≡ space) ⊎ (p.columns ≤ 1)
    → RisePast (p.offset + length p.bytes) more rest → RisePast from (text_of p ++ more) (offsets_of p ++ rest)
part_past from p more rest low after are rise =
    let columns = replicate p.columns p.filler in
    let run = run_past p.bytes p.offset more rest rise in
    subst (λ (t : List ℕ). RisePast from t (offsets_of p ++ rest)) (sym (append_assoc columns p.bytes more))
    (subst (RisePast from (columns ++ (p.bytes ++ more)))
    (sym (append_assoc (replicate p.columns (p.offset - 1)) (range_with_len p.offset (length p.bytes)) rest))
    (elim (leb_tells 1 p.columns) [
      | inl some ↦ (let later = after (omega (arith, some.1)) in
          earlier_past from (p.offset - 1) _ _ (omega (arith, later))
          (columns_past p.columns p.filler (p.offset - 1) _ _ are (earlier_past (suc (p.offset - 1)) p.offset _ _ (omega (arith, later)) run)))
      | inr none ↦ (let zero_columns : p.columns ≡ 0 = omega (arith, none.1) in
          subst (λ n. RisePast from (replicate n p.filler ++ (p.bytes ++ more))
          (replicate n (p.offset - 1) ++ (range_with_len p.offset (length p.bytes) ++ rest))) (sym zero_columns)
          (earlier_past from p.offset _ _ low run))
    ]))

parts_past : (from : ℕ) (parts : List Part) → StandAfter from parts → RisePast from (flat_map text_of parts) (flat_map offsets_of parts)
parts_past from [] after = tt
parts_past from (p ∷ parts) after =
    part_past from p (flat_map text_of parts) (flat_map offsets_of parts) after.0 after.1 after.2
    (parts_past (p.offset + length p.bytes) parts after.3)

front_past : (n from : ℕ) (bytes offsets : List ℕ) → RisePast from bytes offsets → RisePast from (take n bytes) (take n offsets)
front_past zero from bytes offsets rise = tt
front_past (suc n) from [] offsets rise = tt
front_past (suc n) from (b ∷ bytes) [] rise = tt
front_past (suc n) from (b ∷ bytes) (offset ∷ offsets) rise = (rise.0, front_past n _ bytes offsets rise.1)

-- the offsets of a content rise
pub content_past : (kind : BlockKind) (outer : List Container) (kept : ℕ) (lines : List (List ℕ)) (content : Placed)
    → IsContent kind outer kept lines content → RisePast 0 content.text content.offsets
content_past kind outer kept lines content is =
    subst (λ (c : Placed). RisePast 0 c.text c.offsets) (sym is.is_content)
    (front_past _ 0 (flat_map text_of is.parts) (flat_map offsets_of is.parts)
    (parts_past 0 is.parts (parts_after kind outer kept lines is.parts is.are_parts)))

-- ---- by offsets

past_from : (bytes offsets : List ℕ) (from j : ℕ) → RisePast from bytes offsets → length offsets ≡ length bytes → j < length offsets
    → from ≤ slice_index offsets j
past_from [] offsets from j rise each low = absurd (omega (arith, each, low))
past_from (b ∷ bytes) [] from j rise each low = absurd (omega (arith, low))
past_from (b ∷ bytes) (offset ∷ offsets) from zero rise each low = rise.0
past_from (b ∷ bytes) (offset ∷ offsets) from (suc j) rise each low =
    omega (arith, rise.0, past_from bytes offsets _ j rise.1 (omega (arith, each)) (omega (arith, low)), least (b == space))
  where
    least : (test : Bool) → offset ≤ (if test then offset else suc offset)
    least true = omega arith
    least false = omega arith

-- what stands after a byte that is no space stands after it on the page
pub offsets_past : (bytes offsets : List ℕ) (from i j : ℕ) → RisePast from bytes offsets → length offsets ≡ length bytes → i < j
    → j < length offsets → ¬ (slice_index bytes i ≡ space) → slice_index offsets i < slice_index offsets j
offsets_past [] offsets from i j rise each less low other = absurd (omega (arith, each, low))
offsets_past (b ∷ bytes) [] from i j rise each less low other = absurd (omega (arith, low))
offsets_past (b ∷ bytes) (offset ∷ offsets) from i zero rise each less low other = absurd (omega (arith, less))
offsets_past (b ∷ bytes) (offset ∷ offsets) from (suc i) (suc j) rise each less low other =
    offsets_past bytes offsets _ i j rise.1 (omega (arith, each)) (omega (arith, less)) (omega (arith, low)) other
offsets_past (b ∷ bytes) (offset ∷ offsets) from zero (suc j) rise each less low other = by (b == space) refl rise.1
  where
    by : (test : Bool) → (b == space) ≡ test → RisePast (if test then offset else suc offset) bytes offsets → offset < slice_index offsets j
    by true is rest = absurd (other (eqb-true b space is))
    by false is rest =
        let there = past_from bytes offsets (suc offset) j rest (omega (arith, each)) (omega (arith, low)) in
        omega (arith, there)

-- ---- text in which no tab is cut

-- each offset stands after the one before it, and none before this one
abbrev pub RiseStrictly : ℕ → List ℕ → Type 0
RiseStrictly from [] = ⊤
RiseStrictly from (offset ∷ offsets) = (from ≤ offset) × RiseStrictly (suc offset) offsets

earlier_strictly : (from to : ℕ) (offsets : List ℕ) → from ≤ to → RiseStrictly to offsets → RiseStrictly from offsets
earlier_strictly from to [] less rise = tt
earlier_strictly from to (offset ∷ offsets) less rise = (omega (arith, less, rise.0), rise.1)

run_strictly : (n offset : ℕ) (rest : List ℕ) → RiseStrictly (offset + n) rest → RiseStrictly offset (range_with_len offset n ++ rest)
run_strictly zero offset rest rise = earlier_strictly offset (offset + 0) rest (omega arith) rise
run_strictly (suc n) offset rest rise = (
  omega arith,
  earlier_strictly (suc offset) (offset + 1) _ (omega arith)
      (run_strictly n (offset + 1) rest (subst (λ k. RiseStrictly k rest) (omega arith) rise)),
)

abbrev AreUncut : List Part → Type 0
AreUncut [] = ⊤
AreUncut (p ∷ parts) = (p.columns ≡ 0) × AreUncut parts

parts_strictly : (parts : List Part) (from : ℕ) → StandAfter from parts → AreUncut parts → RiseStrictly from (flat_map offsets_of parts)
parts_strictly [] from after uncut = tt
parts_strictly (p ∷ parts) from after uncut =
    let rest = parts_strictly parts (p.offset + length p.bytes) after.3 uncut.1 in
    let run = run_strictly (length p.bytes) p.offset (flat_map offsets_of parts) rest in
    subst (λ n. RiseStrictly from ((replicate n (p.offset - 1) ++ range_with_len p.offset (length p.bytes)) ++ flat_map offsets_of parts)) (sym uncut.0)
    (earlier_strictly from p.offset _ after.0 run)

front_strictly : (n : ℕ) (offsets : List ℕ) (from : ℕ) → RiseStrictly from offsets → RiseStrictly from (take n offsets)
front_strictly zero offsets from rise = tt
front_strictly (suc n) [] from rise = tt
front_strictly (suc n) (offset ∷ offsets) from rise = (rise.0, front_strictly n offsets (suc offset) rise.1)

-- a block whose content is inlines
abbrev pub HasInlines : BlockKind → Type 0
HasInlines (Heading level) = ⊤
HasInlines (Setext level) = ⊤
HasInlines Paragraph = ⊤
HasInlines kind = ⊥

module _ (outer : List Container) where
  setext_uncut : (level : HeadingLevel) (before : ℕ) (lines : List (List ℕ)) → AreUncut (later_parts (Setext level) outer 0 before lines)
  setext_uncut level before [] = tt
  setext_uncut level before (line ∷ lines) = (refl, setext_uncut level (before + length line) lines)

  paragraph_uncut : (before : ℕ) (lines : List (List ℕ)) → AreUncut (later_parts Paragraph outer 0 before lines)
  paragraph_uncut before [] = tt
  paragraph_uncut before (line ∷ lines) = (refl, paragraph_uncut (before + length line) lines)

  parts_uncut : (kind : BlockKind) (kept : ℕ) (lines : List (List ℕ)) (parts : List Part) → HasInlines kind → AreParts kind outer kept lines parts
      → AreUncut parts
  parts_uncut kind kept [] parts inlines none = subst AreUncut (sym none) tt
  parts_uncut (Heading level) kept (line ∷ later) parts inlines is = subst AreUncut (sym is) (refl, tt)
  parts_uncut (Setext level) kept (line ∷ later) parts inlines (inner, are, is) =
      subst AreUncut (sym is) (refl, setext_uncut level (length line) inner)
  parts_uncut Paragraph kept (line ∷ later) parts inlines (inner, are, is) =
      subst AreUncut (sym is) (refl, paragraph_uncut (length line) inner)
  parts_uncut kind kept (line ∷ later) parts inlines is = absurd inlines

-- the offsets of a content of inlines rise
pub inlines_strictly : (kind : BlockKind) (outer : List Container) (kept : ℕ) (lines : List (List ℕ)) (content : Placed) → HasInlines kind
    → IsContent kind outer kept lines content → RiseStrictly 0 content.offsets
inlines_strictly kind outer kept lines content inlines is =
    subst (λ (c : Placed). RiseStrictly 0 c.offsets) (sym is.is_content)
    (front_strictly _ (flat_map offsets_of is.parts) 0
    (parts_strictly is.parts 0 (parts_after kind outer kept lines is.parts is.are_parts) (parts_uncut outer kind kept lines is.parts inlines is.are_parts)))
