-- A definition ends where a line does, so its lines are lines of the content.
use Rattle.std.proofs.Common.{ℕ, true, false, List, [], ◌∷◌, ◌++◌, ◌+◌, ◌==◌, ◌≡◌, ◌≤◌, length, take, drop, Option, Some, None}
use Rattle.std.specs.Prelude.{if◌then◌else◌}
use Rattle.std.proofs.Common.{refl, sym, ap, ◌∙◌, subst, inl, inr, arith, append_assoc, append-nil, length-append}
use Rattle.std.proofs.lemmas.Bool.{cases_Bool}
use Rattle.std.proofs.lemmas.List.{length-take-le, take-append-drop, drop_at}
use Rattle.std.proofs.Math.Seq.{take-append_seam}
use Rattle.std.specs.declared.ops.Range.{Range}
use Rattle.markdown_scanners_tree.specs.Bytes.{begins_with, line_ending}
use Rattle.markdown_scanners_tree.specs.declared.scanners.reference_definitions.ReferenceDefinition.{ReferenceDefinition}
use Rattle.markdown_scanners_tree.specs.scanners.TextLines.{ends_line, lines_of}
use Rattle.markdown_scanners_tree.specs.scanners.reference_definitions.ReferenceDefinition.{IsRestOfLine, IsEnd}
use Rattle.markdown_blocks.specs.declared.taken.Extent.{Extent}
use Rattle.markdown_blocks.specs.definitions.Definitions.{IsDefinition}
use Rattle.markdown_blocks.specs.taken.Lines.{IsTaken}
use Rattle.markdown_blocks.proofs.whole.WholeLemmas.{LastEnds, lines_cut}

last-append : (xs : List ℕ) (e : ℕ) (es more : List ℕ) → LastEnds (e ∷ es) more → LastEnds (xs ++ e ∷ es) more
unfolding LastEnds
last-append [] e es more h = h
last-append (x ∷ []) e es more h = h
last-append (x ∷ y ∷ xs) e es more h = last-append (y ∷ xs) e es more h

-- the lines of a text that is cut so
Cut : ℕ → List ℕ → Type 0
Cut n text = lines_of text ≡ lines_of (take n text) ++ lines_of (drop n text)

cut_parts : (front back : List ℕ) (n : ℕ) → n ≡ length front → lines_of (front ++ back) ≡ lines_of front ++ lines_of back → Cut n (front ++ back)
unfolding Cut
cut_parts front back n is same = rw (is, take-append_seam front back, drop_at front back (length front) refl) same

one_ends : (b : ℕ) (more : List ℕ) → ends_line (b ∷ more) ≡ true → LastEnds (b ∷ []) more
unfolding LastEnds
one_ends b more ends = ends

two_end : (b c : ℕ) (more : List ℕ) → ends_line (c ∷ more) ≡ true → LastEnds (b ∷ c ∷ []) more
unfolding LastEnds
two_end b c more ends = ends

-- after a line ending
single : (xs : List ℕ) (b : ℕ) (bs : List ℕ) (e : ℕ) → e ≡ 1 → ends_line (b ∷ bs) ≡ true → Cut (length xs + e) (xs ++ b ∷ bs)
single xs b bs e one ends =
    let cut = lines_cut (xs ++ b ∷ []) bs (last-append xs b [] bs (one_ends b bs ends)) in
    subst (λ t. Cut (length xs + e) t) (append_assoc xs (b ∷ []) bs)
    (cut_parts (xs ++ b ∷ []) bs (length xs + e) (omega (arith, one, length-append xs (b ∷ []))) cut)

double : (xs : List ℕ) (b c : ℕ) (bs : List ℕ) (e : ℕ) → e ≡ 2 → ends_line (c ∷ bs) ≡ true → Cut (length xs + e) (xs ++ b ∷ c ∷ bs)
double xs b c bs e two ends =
    let cut = lines_cut (xs ++ b ∷ c ∷ []) bs (last-append xs b (c ∷ []) bs (two_end b c bs ends)) in
    subst (λ t. Cut (length xs + e) t) (append_assoc xs (b ∷ c ∷ []) bs)
    (cut_parts (xs ++ b ∷ c ∷ []) bs (length xs + e) (omega (arith, two, length-append xs (b ∷ c ∷ []))) cut)

return_cut : (xs : List ℕ) (b : ℕ) (bs : List ℕ) (e : ℕ) → (b == 10) ≡ false → (b == 13) ≡ true
    → (if begins_with (λ c. c == 10) bs then Some 2 else Some 1) ≡ Some e → Cut (length xs + e) (xs ++ b ∷ bs)
return_cut xs b [] e other cr is = single xs b [] e (let given : Some 1 ≡ Some e = is in cc) (rw (other, cr) refl)
return_cut xs b (c ∷ bs) e other cr is = elim (cases_Bool (c == 10)) [
  | inl lf ↦ double xs b c bs e (let given : Some 2 ≡ Some e = rw lf at is in cc) (rw lf refl)
  | inr plain ↦ single xs b (c ∷ bs) e (let given : Some 1 ≡ Some e = rw plain at is in cc) (rw (other, cr, plain) refl)
]

ending_cut : (xs after : List ℕ) (e : ℕ) → line_ending after ≡ Some e → Cut (length xs + e) (xs ++ after)
ending_cut xs [] e is =
    let zero : e ≡ 0 = (let given : Some 0 ≡ Some e = is in cc) in
    cut_parts xs [] (length xs + e) (omega (arith, zero)) (ap lines_of (append-nil xs) ∙ sym (append-nil (lines_of xs)))
ending_cut xs (b ∷ bs) e is = elim (cases_Bool (b == 10)) [
  | inl lf ↦ single xs b bs e (let given : Some 1 ≡ Some e = rw lf at is in cc) (rw lf refl)
  | inr other ↦ elim (cases_Bool (b == 13)) [
    | inl cr ↦ return_cut xs b bs e other cr (rw (other, cr) at is)
    | inr plain ↦ let given : ◌≡◌ {A = Option ℕ} None (Some e) = rw (other, plain) at is in cc
  ]
]

-- after the rest of a line
rest_cut : (text : List ℕ) (x n : ℕ) → x ≤ length text → IsRestOfLine (drop x text) n → Cut (x + n) text
rest_cut text x n within is =
    let whole : (take x text ++ is.spaces) ++ is.after ≡ text =
    append_assoc (take x text) is.spaces is.after ∙ ap (λ t. take x text ++ t) (sym is.parts) ∙ take-append-drop x text in
    let size : length (take x text ++ is.spaces) + is.ending ≡ x + n =
    omega (arith, length-append (take x text) is.spaces, length-take-le x text within, is.counted) in
    subst (λ t. Cut (x + n) t) whole (subst (λ m. Cut m ((take x text ++ is.spaces) ++ is.after)) size
    (ending_cut (take x text ++ is.spaces) is.after is.ending is.ends))

end_cut : (text : List ℕ) (offset : ℕ) (title : Option (Range ℕ)) (len : ℕ) → len ≤ length text → IsEnd text offset title len → Cut len text
end_cut text offset None len within is =
    subst (λ m. Cut m text) (sym is.len_is) (rest_cut text offset is.ending (omega (arith, within, is.len_is)) is.nothing_further)
end_cut text offset (Some title) len within is =
    subst (λ m. Cut m text) (sym is.len_is) (rest_cut text (title.end + 1) is.ending (omega (arith, within, is.len_is)) is.nothing_further)

pub definition_cut : (text : List ℕ) (d : ReferenceDefinition) → d.len ≤ length text → IsDefinition text d
    → lines_of text ≡ lines_of (take d.len text) ++ lines_of (drop d.len text)
unfolding Cut
definition_cut text d within is = end_cut text is.offset d.title d.len within is.ends

pub taken_cut : (text : List ℕ) (d : ReferenceDefinition) (taken : Extent) → d.len ≤ length text → IsDefinition text d → taken.bytes ≡ d.len
    → taken.lines ≡ length (lines_of (take d.len text)) → IsTaken text taken (lines_of (take d.len text))
taken_cut text d taken within is bytes counted = record {
  within = omega (arith, bytes, within);
  parts = definition_cut text d within is ∙ ap (λ n. lines_of (take d.len text) ++ lines_of (drop n text)) (sym bytes);
  counted = counted;
}
