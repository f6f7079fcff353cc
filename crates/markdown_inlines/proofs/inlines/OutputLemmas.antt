-- Inlines are added one after another.
use Rattle.std.proofs.Common.{ℕ, zero, suc, List, [], ◌∷◌, ◌++◌, ◌≡◌, ◌≤◌, ◌<◌, ◌+◌, ◌-◌, ◌∙◌, arith, sym, ap, get_or, length}
use Rattle.std.specs.List.{flat_map, range_with_len}
use Rattle.std.proofs.lemmas.Grind.{flat_map-append}
use Rattle.std.proofs.lemmas.List.{append_assoc, append-nil}
use Rattle.markdown_inlines.specs.Marks.{AreMarks}
use Rattle.markdown_inlines.specs.Output.{delimiter_at, delimiter_with, delimiters_between}
use Rattle.markdown_inlines.specs.declared.emphasis.Emphasis.{Emphasis}
use Rattle.markdown_inlines.specs.declared.inlines.Inline.{Inline}
use Rattle.markdown_inlines.specs.declared.marks.Mark.{Mark}
use Rattle.markdown_inlines.specs.declared.marks.Mark.TheVariants.{Nothing}

-- one number more
range_more : (from n : ℕ) → range_with_len from (suc n) ≡ range_with_len from n ++ (from + n) ∷ []
range_more from zero = (let same : from ≡ from + 0 = omega arith in ap (λ k. k ∷ []) same)
range_more from (suc n) =
    let same : from + 1 + n ≡ from + suc n = omega arith in
    ap (λ (l : List ℕ). from ∷ l) (range_more (from + 1) n ∙ ap (λ k. range_with_len (from + 1) n ++ k ∷ []) same)

-- one delimiter more
pub delimiter_added : (emphasis : List Emphasis) (marks : List Mark) (from offset : ℕ)
    (inlines next start : List Inline) → AreMarks emphasis (length marks) marks → from ≤ offset → offset < length marks
    → inlines ≡ start ++ delimiters_between emphasis from offset
    → next ≡ inlines ++ delimiter_with (get_or marks offset Nothing) offset
    → next ≡ start ++ delimiters_between emphasis from (offset + 1)
delimiter_added emphasis marks from offset inlines next start are later within before added =
    let show = delimiter_at emphasis in
    let numbers : range_with_len from (offset + 1 - from) ≡ range_with_len from (offset - from) ++ offset ∷ [] =
    (let one_more : offset + 1 - from ≡ suc (offset - from) = omega (arith, later) in
    let last : from + (offset - from) ≡ offset = omega (arith, later) in
    ap (range_with_len from) one_more ∙ (range_more from (offset - from) ∙ ap (λ k. range_with_len from (offset - from) ++ k ∷ []) last)) in
    let more : delimiters_between emphasis from (offset + 1) ≡ delimiters_between emphasis from offset ++ show offset =
    ap (flat_map show) numbers ∙ (flat_map-append show (range_with_len from (offset - from)) (offset ∷ [])
    ∙ ap (λ (l : List Inline). delimiters_between emphasis from offset ++ l) (append-nil (show offset))) in
    added ∙ (ap (λ (l : List Inline). l ++ delimiter_with (get_or marks offset Nothing) offset) before
    ∙ (ap (λ mark. (start ++ delimiters_between emphasis from offset) ++ delimiter_with mark offset) (are.each offset within)
    ∙ (append_assoc start (delimiters_between emphasis from offset) (show offset)
    ∙ ap (λ (l : List Inline). start ++ l) (sym more))))
