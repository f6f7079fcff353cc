-- A guard that is true at an offset stays true, and a scan under it answers the find.
use Rattle.std.proofs.Common.{◌≡◌, ℕ, zero, suc, ◌+◌, ◌-◌, ◌≤◌, ◌<◌, Bool, true, false, List, [], ◌∷◌, length, get_or, refl}
use Rattle.std.proofs.Common.{sym, ap, subst, ◌∙◌, arith, ⊎_elim, Option, Some, None, cond, add-zero, ◌⊎◌, inl, inr}
use Rattle.std.specs.Prelude.{◌≢◌, codes, IfSome, slice_index, not, ◌==◌, nat_le}
use Rattle.std.specs.List.{list_all}
use Rattle.std.proofs.lemmas.Bool.{false≢true, ltb-true, leb-true, lt-ltb, le-leb, and_parts, eq-eqb, false_from_ne_true}
use Rattle.std.proofs.lemmas.Option.{same_Some, none-some}
use Rattle.memchr.specs.Find.{OccursAt, Nowhere, FindsNeedle, occurs_at}
use Rattle.memchr.proofs.lemmas.MatchLemmas.{OccursAt-true}
use Rattle.memchr.proofs.lemmas.FindLemmas.{Nowhere-then}
use Rattle.markdown_scanners_tree.specs.declared.inline_html.HtmlScanGuard.{HtmlScanGuard}
use Rattle.markdown_scanners_tree.specs.Ascii.{exclamation_mark, less_than_sign, greater_than_sign, question_mark, right_bracket}
use Rattle.markdown_scanners_tree.specs.Bytes.{is_letter}
use Rattle.markdown_scanners_tree.specs.inline_html.CountedText.{CountedBytes, passing}
use Rattle.markdown_scanners_tree.specs.inline_html.InlineHtml.{Kind, Comment, Cdata, Declaration, Processing, Opening, Begins, Hyphen, Bracket, Nothing, closer}
use Rattle.markdown_scanners_tree.specs.inline_html.InlineHtml.{lead, first_closer, closed_at, end_of, declared_at, opening_at, ends_opener, opener_before}
use Rattle.markdown_scanners_tree.specs.inline_html.Guard.{is_stopped, with_number, searched_guard, guarded_answer, guard_after, answer_of_scan, guard_after_scan, IsTrueGuard, IsTrueScan}
use Rattle.markdown_scanners_tree.proofs.inline_html.LeastPlaces.{first_offset-FindsNeedle, first_offset-value}

-- ---- what begins at an offset holds no closer

-- no closer of the kind begins among the bytes that belong to the beginning of a piece
abbrev HasFreeLead : List ℕ → ℕ → Opening → Type 0
HasFreeLead text p (Begins kind) = Nowhere (OccursAt text (closer kind)) p (p + lead kind)
HasFreeLead text p Hyphen = Unit {0}
HasFreeLead text p Bracket = Unit {0}
HasFreeLead text p Nothing = Unit {0}

not-among : (x : ℕ) (bytes : List ℕ) → list_all (λ b. not (b == x)) bytes ≡ true → (j : ℕ) → j < length bytes
    → get_or bytes j 0 ≡ x → ⊥
not-among x [] h j below e = absurd (omega arith)
not-among x (b ∷ bs) h zero below e = false≢true (sym (ap not (eq-eqb b x e)) ∙ (and_parts _ _ h).0)
not-among x (b ∷ bs) h (suc j) below e = not-among x bs (and_parts _ _ h).1 j (omega arith) e

cdata-lead : (text : List ℕ) (p : ℕ) → OccursAt text (codes "[CDATA[") p
    → Nowhere (OccursAt text (codes "]]>")) p (p + 7)
cdata-lead text p h q low high closes =
    let there : p + (q - p) ≡ q = omega arith in
    let first : get_or text q 0 ≡ right_bracket =
    ap (λ m. get_or text m 0) (sym (add-zero q)) ∙ closes.reads 0 (omega arith) in
    not-among right_bracket (codes "[CDATA[") refl (q - p) (omega arith) (sym (h.reads (q - p) (omega arith)) ∙ ap (λ m. get_or text m 0) there ∙ first)

letter-lead : (text : List ℕ) (p : ℕ) → is_letter (slice_index text p) ≡ true
    → Nowhere (OccursAt text (codes ">")) p (p + 1)
letter-lead text p letter q low high closes =
    let here : q + 0 ≡ p = omega arith in
    let first : get_or text p 0 ≡ greater_than_sign =
    ap (λ m. get_or text m 0) (sym here) ∙ closes.reads 0 (omega arith) in
    false≢true (subst (λ b. is_letter b ≡ true) first letter)

-- the cases of what is declared, by the tests in turn
chain : Bool → Bool → Bool → Bool → Bool → Opening
unfolding declared_at
chain a b c d e =
    cond a (Begins Comment) (cond b Hyphen (cond c (Begins Cdata) (cond d Bracket (cond e (Begins Declaration) Nothing))))

empty-lead : (text : List ℕ) (kind : Kind) (p : ℕ) → lead kind ≡ 0
    → Nowhere (OccursAt text (closer kind)) p (p + lead kind)
empty-lead text kind p none q low high = absurd (omega arith)

chain-lead : (text : List ℕ) (p : ℕ) (a b c d e : Bool)
    → (c ≡ true → Nowhere (OccursAt text (closer Cdata)) p (p + 7)) → (e ≡ true → Nowhere (OccursAt text (closer Declaration)) p (p + 1))
    → HasFreeLead text p (chain a b c d e)
unfolding chain
chain-lead text p true b c d e cdata letter = empty-lead text Comment p refl
chain-lead text p false true c d e cdata letter = tt
chain-lead text p false false true d e cdata letter = cdata refl
chain-lead text p false false false true e cdata letter = tt
chain-lead text p false false false false true cdata letter = letter refl
chain-lead text p false false false false false cdata letter = tt

declared_at-lead : (text : List ℕ) (p : ℕ) → HasFreeLead text p (declared_at text p)
unfolding declared_at chain
declared_at-lead text p =
    chain-lead text p _ _ (occurs_at text (codes "[CDATA[") p) _ (is_letter (slice_index text p))
    (λ there. cdata-lead text p (OccursAt-true text (codes "[CDATA[") p there)) (letter-lead text p)

processing-lead : (text : List ℕ) (p : ℕ) → HasFreeLead text p (Begins Processing)
processing-lead text p = empty-lead text Processing p refl

-- ---- guards

earlier-stop : (guard : HtmlScanGuard) (p q : ℕ) → p ≤ q → (kind : Kind) → is_stopped guard q kind ≡ true
    → is_stopped guard p kind ≡ true
earlier-stop guard p q le Comment s = let above = ltb-true _ _ s in lt-ltb _ guard.comment (omega arith)
earlier-stop guard p q le Cdata s = let above = ltb-true _ _ s in lt-ltb _ guard.cdata (omega arith)
earlier-stop guard p q le Declaration s = let above = ltb-true _ _ s in lt-ltb _ guard.declaration (omega arith)
earlier-stop guard p q le Processing s = let above = leb-true _ _ s in le-leb _ guard.processing (omega arith)

Nowhere-later : {P : ℕ → Type 0} {i j l : ℕ} → i ≤ j → Nowhere P i l → Nowhere P j l
Nowhere-later {P} {i} {j} {l} le h k low high = h k (omega arith) high

module _ (text : List ℕ) (guard : HtmlScanGuard) where
  -- a guard that is true at an offset is true at each later one
  pub IsTrueGuard-later : (p q : ℕ) → p ≤ q → IsTrueGuard text guard p → IsTrueGuard text guard q
  IsTrueGuard-later p q le is kind s = Nowhere-later le (is kind (earlier-stop guard p q le kind s))

  with_number-true : (q number : ℕ) → IsTrueGuard text guard q → (kind : Kind)
      → Nowhere (OccursAt text (closer kind)) q (length text + 1) → IsTrueGuard text (with_number guard kind number) q
  with_number-true q number is Comment none Comment s = none
  with_number-true q number is Comment none Cdata s = is Cdata s
  with_number-true q number is Comment none Declaration s = is Declaration s
  with_number-true q number is Comment none Processing s = is Processing s
  with_number-true q number is Cdata none Comment s = is Comment s
  with_number-true q number is Cdata none Cdata s = none
  with_number-true q number is Cdata none Declaration s = is Declaration s
  with_number-true q number is Cdata none Processing s = is Processing s
  with_number-true q number is Declaration none Comment s = is Comment s
  with_number-true q number is Declaration none Cdata s = is Cdata s
  with_number-true q number is Declaration none Declaration s = none
  with_number-true q number is Declaration none Processing s = is Processing s
  with_number-true q number is Processing none Comment s = is Comment s
  with_number-true q number is Processing none Cdata s = is Cdata s
  with_number-true q number is Processing none Declaration s = is Declaration s
  with_number-true q number is Processing none Processing s = none

  -- after a hit only the comments' number changes, to an offset below the find
  hit-true : (q hit : ℕ) → IsTrueGuard text guard q → (kind : Kind) → hit + length (closer kind) ≤ q
      → IsTrueGuard text (searched_guard text guard kind (Some hit)) q
  hit-true q hit is Comment above Comment s = let below = ltb-true _ _ s in absurd (omega arith)
  hit-true q hit is Comment above Cdata s = is Cdata s
  hit-true q hit is Comment above Declaration s = is Declaration s
  hit-true q hit is Comment above Processing s = is Processing s
  hit-true q hit is Cdata above kind s = is kind s
  hit-true q hit is Declaration above kind s = is kind s
  hit-true q hit is Processing above kind s = is kind s

  module _ (p : ℕ) (is : IsTrueGuard text guard p) where
    -- the answer and the guard, by whether the kind is stopped and its closer is found
    answers-kind : (kind : Kind) (stopped : Bool) → is_stopped guard p kind ≡ stopped
        → cond stopped None (closed_at text kind p) ≡ closed_at text kind p
    answers-kind kind false e = refl
    answers-kind kind true e =
        let none =
        first_offset-value text (closer kind) (p + lead kind) None (Nowhere-later (omega arith) (is kind e)) in
        rw (← none)

    kind-stays_true : (kind : Kind) → HasFreeLead text p (Begins kind) → (stopped : Bool) → (found : Option ℕ)
        → first_closer text kind p ≡ found
        → (q : ℕ) → p < q → IfSome (cond stopped None (closed_at text kind p)) (λ end. end ≤ q)
        → IsTrueGuard text (cond stopped guard (searched_guard text guard kind found)) q
    kind-stays_true kind free true found e q later outside = IsTrueGuard-later p q (omega arith) is
    kind-stays_true kind free false None e q later outside =
        let gone =
        subst (FindsNeedle text (closer kind) (p + lead kind)) e (first_offset-FindsNeedle text (closer kind) (p + lead kind)) in
        with_number-true q (length text) (IsTrueGuard-later p q (omega arith) is) kind (Nowhere-later (omega arith) (Nowhere-then free gone))
    kind-stays_true kind free false (Some hit) e q later outside =
        hit-true q hit (IsTrueGuard-later p q (omega arith) is) kind (rw e at outside)

    true_answer : (opening : Opening) → guarded_answer text guard opening p ≡ end_of text opening p
    true_answer (Begins kind) = answers-kind kind _ refl
    true_answer Hyphen = refl
    true_answer Bracket = refl
    true_answer Nothing = refl

    true_after : (opening : Opening) → HasFreeLead text p opening → (q : ℕ) → p < q
        → IfSome (guarded_answer text guard opening p) (λ end. end ≤ q)
        → IsTrueGuard text (guard_after text guard opening p) q
    true_after (Begins kind) free q later outside = kind-stays_true kind free _ _ refl q later outside
    true_after Hyphen free q later outside = IsTrueGuard-later p q (omega arith) is
    true_after Bracket free q later outside = IsTrueGuard-later p q (omega arith) is
    true_after Nothing free q later outside = IsTrueGuard-later p q (omega arith) is

-- ---- what begins at an offset, by the mark of its opener

pub opening_at-declared : (text : List ℕ) (p : ℕ) → ends_opener exclamation_mark text p ≡ true
    → opening_at text p ≡ declared_at text p
unfolding opening_at
opening_at-declared text p e = rw e

one-mark : (text : List ℕ) (p : ℕ) → ends_opener question_mark text p ≡ true
    → ends_opener exclamation_mark text p ≡ false
one-mark text p question = false_from_ne_true _ (λ bang.
    let one : 1 < 2 = omega arith in
    let a = OccursAt-true text (less_than_sign ∷ question_mark ∷ []) (p - 2) (and_parts (nat_le 2 p) _ question).1 in
    let b = OccursAt-true text (less_than_sign ∷ exclamation_mark ∷ []) (p - 2) (and_parts (nat_le 2 p) _ bang).1 in
    apart (sym (a.reads 1 one) ∙ b.reads 1 one))
  where
    apart : ◌≡◌ {A = ℕ} question_mark exclamation_mark → ⊥
    apart e = omega (arith, e)

pub opening_at-processing : (text : List ℕ) (p : ℕ) → ends_opener question_mark text p ≡ true
    → opening_at text p ≡ Begins Processing
unfolding opening_at
opening_at-processing text p e = rw (one-mark text p e, e)

-- a scan of what begins at an offset just after an opener, by its answer and guard
true-scan : (text : List ℕ) (guard : HtmlScanGuard) (opening : Opening) (p : ℕ) (answer : Option ℕ) (after : HtmlScanGuard)
    → answer ≡ guarded_answer text guard opening p → after ≡ guard_after text guard opening p → opening_at text p ≡ opening → HasFreeLead text p opening
    → IsTrueGuard text guard p → IsTrueScan text p answer after
true-scan text guard opening p answer after a g is_here free is = record {
  finds = a ∙ true_answer text guard p is opening ∙ ap (λ o. end_of text o p) (sym is_here);
  stays_true = λ q later outside. subst (λ h. IsTrueGuard text h q) (sym g)
      (true_after text guard p is opening free q later (subst (λ r. IfSome r (λ end. end ≤ q)) a outside));
}

-- the same of a scan of what is declared after `<!`, and of a processing instruction
pub true-declared : (text : List ℕ) (guard : HtmlScanGuard) (p : ℕ) (answer : Option ℕ) (after : HtmlScanGuard)
    → answer ≡ guarded_answer text guard (declared_at text p) p → after ≡ guard_after text guard (declared_at text p) p
    → ends_opener exclamation_mark text p ≡ true → IsTrueGuard text guard p → IsTrueScan text p answer after
true-declared text guard p answer after a g opener is =
    true-scan text guard _ p answer after a g (opening_at-declared text p opener) (declared_at-lead text p) is

pub true-processing : (text : List ℕ) (guard : HtmlScanGuard) (p : ℕ) (answer : Option ℕ) (after : HtmlScanGuard)
    → answer ≡ guarded_answer text guard (Begins Processing) p → after ≡ guard_after text guard (Begins Processing) p
    → ends_opener question_mark text p ≡ true → IsTrueGuard text guard p → IsTrueScan text p answer after
true-processing text guard p answer after a g opener is =
    true-scan text guard _ p answer after a g (opening_at-processing text p opener) (processing-lead text p) is

-- the same where the scan was given over the text with one byte counted
pub true-declared-after : (t u : CountedBytes) (guard : HtmlScanGuard) (p count : ℕ) (answer : Option ℕ) (after : HtmlScanGuard)
    → u ≡ passing t count
    → answer ≡ guarded_answer u.text guard (declared_at u.text p) p → after ≡ guard_after u.text guard (declared_at u.text p) p
    → ends_opener exclamation_mark t.text p ≡ true → IsTrueGuard t.text guard p → IsTrueScan t.text p answer after
true-declared-after t u guard p count answer after counted a g =
    let same : u.text ≡ t.text = ap (λ v. v.text) counted in
    true-declared t.text guard p answer after
    (a ∙ ap (λ s. guarded_answer s guard (declared_at s p) p) same)
    (g ∙ ap (λ s. guard_after s guard (declared_at s p) p) same)

-- ---- openers

-- an opener lies in the text
opener-in : (mark : ℕ) (text : List ℕ) (p : ℕ) → ends_opener mark text p ≡ true → (2 ≤ p) × (p ≤ length text)
opener-in mark text p e =
    let parts = and_parts (nat_le 2 p) _ e in
    let two = leb-true _ _ parts.0 in
    (two, omega (arith, (OccursAt-true text (less_than_sign ∷ mark ∷ []) (p - 2) parts.1).fits))

some-mark : (bang question : Bool) (mark : ℕ)
    → cond bang (Some exclamation_mark) (cond question (Some question_mark) None) ≡ Some mark
    → ((bang ≡ true) × (mark ≡ exclamation_mark)) ⊎ ((question ≡ true) × (mark ≡ question_mark))
some-mark true question mark e = inl (refl, same_Some mark exclamation_mark (sym e))
some-mark false true mark e = inr (refl, same_Some mark question_mark (sym e))
some-mark false false mark e = absurd (none-some mark e)

-- the mark tells which opener ends at the offset
pub opener-mark : (text : List ℕ) (p mark : ℕ) → opener_before text p ≡ Some mark
    → ((ends_opener exclamation_mark text p ≡ true) × (mark ≡ exclamation_mark)) ⊎ ((ends_opener question_mark text p ≡ true) × (mark ≡ question_mark))
opener-mark text p mark e = some-mark _ _ mark e

pub opener-bang : (text : List ℕ) (p mark : ℕ) → opener_before text p ≡ Some mark → mark ≡ exclamation_mark
    → ends_opener exclamation_mark text p ≡ true
opener-bang text p mark e is_bang =
    ⊎_elim (λ bang. bang.0) (λ question. absurd (omega (arith, question.1))) (opener-mark text p mark e)

pub opener-question : (text : List ℕ) (p mark : ℕ) → opener_before text p ≡ Some mark → (mark ≡ exclamation_mark → ⊥)
    → ends_opener question_mark text p ≡ true
opener-question text p mark e no_bang =
    ⊎_elim (λ bang. absurd (no_bang bang.1)) (λ question. question.0) (opener-mark text p mark e)

some-there : (opener : Option ℕ) → opener ≢ None → (mark : ℕ) × (opener ≡ Some mark)
some-there None there = absurd (there refl)
some-there (Some mark) there = (mark, refl)

-- an opener that ends at an offset has a mark
pub opener-there : (text : List ℕ) (p : ℕ) → opener_before text p ≢ None → (mark : ℕ) × (opener_before text p ≡ Some mark)
opener-there text p there = some-there (opener_before text p) there

pub opener-bounds : (text : List ℕ) (p mark : ℕ) → opener_before text p ≡ Some mark → (2 ≤ p) × (p ≤ length text)
opener-bounds text p mark e =
    ⊎_elim (λ bang. opener-in exclamation_mark text p bang.0) (λ question. opener-in question_mark text p question.0) (opener-mark text p mark e)

-- a scan just after an opener, under a guard that is true there
pub true-opening : (text : List ℕ) (guard : HtmlScanGuard) (p mark : ℕ) → opener_before text p ≡ Some mark
    → IsTrueGuard text guard p
    → IsTrueScan text p (answer_of_scan opening_at text guard p) (guard_after_scan opening_at text guard p)
true-opening text guard p mark opener is =
    ⊎_elim
    (λ bang. let same = opening_at-declared text p bang.0 in
    true-scan text guard _ p _ _ (ap (λ o. guarded_answer text guard o p) same) (ap (λ o. guard_after text guard o p) same) same (declared_at-lead text p) is)
    (λ question. let same = opening_at-processing text p question.0 in
    true-scan text guard _ p _ _ (ap (λ o. guarded_answer text guard o p) same) (ap (λ o. guard_after text guard o p) same) same (processing-lead text p) is)
    (opener-mark text p mark opener)
