-- Lines that are taken one after the other.
use Rattle.std.proofs.Common.{ℕ, List, [], ◌∷◌, ◌++◌, ◌≡◌, inl, inr, length, drop, refl, sym, ap, ◌∙◌, append_assoc, append-nil, length-append}
use Rattle.std.proofs.Common.{◌+◌, ◌-◌, ◌<◌, ◌≤◌, take, arith}
use Rattle.std.proofs.lemmas.List.{drop-drop, length-drop, take_all}
use Rattle.std.specs.List.{AllByRecursion, concat}
use Rattle.std.proofs.lemmas.List.Folds.{concat-append}
use Rattle.markdown_scanners_tree.proofs.ForCallers.{first_line-taken, lines_joined}
use Rattle.markdown_scanners_tree.specs.Bytes.{line_length}
use Rattle.markdown_scanners_tree.specs.scanners.TextLines.{lines_of}
use Rattle.markdown_blocks.specs.declared.taken.Extent.{Extent}
use Rattle.markdown_blocks.specs.taken.Lines.{IsTaken, IsNext}
use Rattle.markdown_blocks.specs.declared.containers.Container.{Container}
use Rattle.markdown_blocks.specs.containers.Containers.{IsInside}
use Rattle.markdown_blocks.specs.blocks.Leaves.{OnFirst, StopsBefore, StopsAfter}

-- a slice from an offset on is what is after it
pub slice_after : {A : Type 0} (text : List A) (b : ℕ) → take (length text - b) (drop b text) ≡ drop b text
slice_after text b = take_all (length text - b) (drop b text) (omega (arith, length-drop b text))

-- the line that is taken from the front of what is left
pub next_line : (text : List ℕ) (taken more : Extent) (n : ℕ) (rest : List ℕ) → rest ≡ drop taken.bytes text → taken.bytes < length text
    → n ≡ line_length rest → n ≤ length rest → (0 < length rest → 0 < n) → more.bytes ≡ taken.bytes + n → more.lines ≡ taken.lines + 1
    → IsNext text taken (take n rest) more
next_line text taken more n rest is below counts fits rises bytes lines =
    let left : length rest ≡ length text - taken.bytes = ap length is ∙ length-drop taken.bytes text in
    let some : 0 < length rest = omega arith in
    let up = rises some in
    record {
      within = omega arith;
      further = omega arith;
      parts = ap lines_of (sym is) ∙ first_line-taken rest n some counts
          ∙ ap (λ l. take n rest ∷ lines_of l) (ap (drop n) is ∙ drop-drop n taken.bytes text ∙ ap (λ b. drop b text) (sym bytes));
      counted = lines;
    }

-- a line more
pub taken-next : (text : List ℕ) (taken more : Extent) (lines : List (List ℕ)) (line : List ℕ) → IsTaken text taken lines → IsNext text taken line more
    → IsTaken text more (lines ++ line ∷ [])
taken-next text taken more lines line h n = record {
  within = n.within;
  parts = h.parts ∙ ap (λ rest. lines ++ rest) n.parts ∙ sym (append_assoc lines (line ∷ []) (lines_of (drop more.bytes text)));
  counted = n.counted ∙ ap (λ count. count + 1) h.counted ∙ sym (length-append lines (line ∷ []));
}

pub all-push : (P : List ℕ → Type 0) (lines : List (List ℕ)) (line : List ℕ) → AllByRecursion P lines → P line → AllByRecursion P (lines ++ line ∷ [])
all-push P [] line all here = (here, tt)
all-push P (l ∷ lines) line all here = (all.0, all-push P lines line all.1 here)

module _ (P : List ℕ → Type 0) (text : List ℕ) where
  -- the lines that are passed after the first, none of which is an end
  abbrev pub Passed : Extent → Extent → Type 0
  Passed first taken = (lines : List (List ℕ)) → IsTaken text first lines
      → (more : List (List ℕ)) × IsTaken text taken (lines ++ more) × AllByRecursion (λ line. ¬ P line) more

  abbrev pub Until : Extent → Extent → Type 0
  Until first taken = (lines : List (List ℕ)) → IsTaken text first lines
      → (more : List (List ℕ)) × IsTaken text taken (lines ++ more) × StopsBefore P more (lines_of (drop taken.bytes text))

  abbrev pub Through : List Container → Extent → Extent → Type 0
  Through outer first taken = (lines : List (List ℕ)) → IsTaken text first lines
      → (more : List (List ℕ)) × IsTaken text taken (lines ++ more) × StopsAfter outer P more (lines_of (drop taken.bytes text))

  pub passed-none : (first : Extent) → Passed first first
  passed-none first lines h = ([], rw append-nil h, tt)

  pub passed-more : (first taken more : Extent) (line : List ℕ) → Passed first taken → IsNext text taken line more → ¬ P line → Passed first more
  passed-more first taken more line p n none lines h =
      let before = p lines h in (
        before.0 ++ line ∷ [],
        rw (← append_assoc) (taken-next text taken more (lines ++ before.0) line before.1 n),
        all-push (λ l. ¬ P l) before.0 line before.2 none,
      )

  pub until-found : (first taken more : Extent) (line : List ℕ) → Passed first taken → IsNext text taken line more → P line → Until first taken
  until-found first taken more line p n here lines h =
      let before = p lines h in (before.0, before.1, record { none = before.2; stopped = rw n.parts here })

  pub until-end : (first taken : Extent) → Passed first taken → lines_of (drop taken.bytes text) ≡ [] → Until first taken
  until-end first taken p end lines h =
      let before = p lines h in (before.0, before.1, record { none = before.2; stopped = rw end tt })

  pub through-found : (outer : List Container) (first taken more : Extent) (line : List ℕ) → Until first taken → IsNext text taken line more
      → IsInside outer line → Through outer first more
  through-found outer first taken more line u n inside lines h =
      let before = u lines h in (
        before.0 ++ line ∷ [],
        rw (← append_assoc) (taken-next text taken more (lines ++ before.0) line before.1 n),
        inl (before.0, line, refl, record { none = before.2.none; stopped = rw n.parts at before.2.stopped }, inside),
      )

  pub through-end : (outer : List Container) (first taken : Extent) → Until first taken → OnFirst (λ line. ¬ IsInside outer line) (lines_of
      (drop taken.bytes text)) → Through outer first taken
  through-end outer first taken u end lines h =
      let before = u lines h in (before.0, before.1, inr (before.2, end))

-- so many bytes are those of the lines that are taken
pub lines_bytes : (text : List ℕ) (bytes : ℕ) (lines : List (List ℕ)) → bytes ≤ length text → lines_of text ≡ lines ++ lines_of (drop bytes text)
    → bytes ≡ length (concat lines)
lines_bytes text bytes lines within parts =
    let whole : length text ≡ length (concat lines) + length (drop bytes text) =
    ap length (sym (lines_joined text) ∙ ap concat parts ∙ concat-append lines (lines_of (drop bytes text))
    ∙ ap (λ rest. concat lines ++ rest) (lines_joined (drop bytes text))) ∙ length-append (concat lines) (drop bytes text) in
    omega (arith, within, whole, length-drop bytes text)

-- the first of them has no more
pub first_within : (text : List ℕ) (taken : Extent) (line : List ℕ) (later : List (List ℕ)) → IsTaken text taken (line ∷ later)
    → length line ≤ taken.bytes
first_within text taken line later h =
    let bytes = lines_bytes text taken.bytes (line ∷ later) h.within h.parts in
    let parts = ap length (concat-append (line ∷ []) later) ∙ length-append (concat (line ∷ [])) (concat later) in
    let one = ap length (append-nil line) in
    omega (arith, bytes, parts, one)
