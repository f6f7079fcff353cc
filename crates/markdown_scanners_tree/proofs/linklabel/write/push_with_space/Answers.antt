-- The text up to a space, and the space.
use Rattle.std.proofs.Common.{ℕ, List, [], ◌∷◌, ◌≡◌, ◌≤◌, ◌<◌, ◌∙◌, ◌+◌, ◌++◌, Result, Ok, Err, IfOk, is_ok, true, refl, sym, ap, cond}
use Rattle.std.proofs.Common.{arith, append_assoc, drop, length, get_or}
use Rattle.std.proofs.lemmas.List.{drop_more}
use Rattle.std.proofs.lemmas.Str.{IsCharBoundary-after_ascii}
use Rattle.std.specs.Prelude.{slice_range}
use Rattle.std.specs.Str.{IsUtf8, IsCharBoundary}
use Rattle.std.specs.String.{string_bytes}
use Rattle.markdown_scanners_tree.proofs.linklabel.WriteLemmas.{slice_more}
use Rattle.markdown_scanners_tree.proofs.linklabel.write.push_with_space.Goals as goal

-- where a space stands after the part, the two are one part
with_space : (old text : List ℕ) (mark end : ℕ) → mark ≤ end → end < length text → get_or text end 0 ≡ 32
    → old ++ slice_range text mark (end + 1) ≡ (old ++ slice_range text mark end) ++ (32 ∷ [])
with_space old text mark end order within is =
    ap (λ z. old ++ z) (slice_more text mark end 32 (drop (end + 1) text) order
    (drop_more text end 0 within ∙ ap (λ b. b ∷ drop (end + 1) text) is))
    ∙ sym (append_assoc old (slice_range text mark end) (32 ∷ []))

cut : (text : List ℕ) (end : ℕ) → IsUtf8 text → end < length text → get_or text end 0 ≡ 32 → IsCharBoundary text (end + 1)
cut text end utf8 within is = IsCharBoundary-after_ascii text end utf8 within (rw is (omega arith))

when_ok : {E : Type 0} (r : Result (Unit {0}) E) (P : Type 0) → (is_ok r ≡ true → P) → IfOk r (λ _. P)
when_ok (Ok x) P f = f refl
when_ok (Err x) P f = tt

pub range-requires-clause-end_boundary : goal.range-requires-clause-end_boundary
range-requires-clause-end_boundary c =
    let space : get_or c.args.text.now c.args.end 0 ≡ 32 =
    ap (λ z. get_or z c.args.end 0) (sym c.as_bytes.ensures.value) ∙ c.if-as_bytes-end-eq32.true in
    cut c.args.text.now c.args.end c.utf8.text c.requires.within space

pub returns-then-as_bytes-end-eq32-clause-bytes : goal.returns-then-as_bytes-end-eq32-clause-bytes
returns-then-as_bytes-end-eq32-clause-bytes c =
    let space : get_or c.args.text.now c.args.end 0 ≡ 32 =
    ap (λ z. get_or z c.args.end 0) (sym c.as_bytes.ensures.value) ∙ c.if-as_bytes-end-eq32.true in
    let old = string_bytes c.args.out.now in
    when_ok _ _ (λ ok. c.push_str.ensures.bytes ∙ ap (λ v. cond v (old ++ c.range.result.now) old) ok
    ∙ ap (λ z. old ++ z) c.range.ensures.value
    ∙ with_space old c.args.text.now c.args.mark c.args.end c.requires.ordered c.requires.within space)
