-- Steps of a closer, and what they end.
use Rattle.std.proofs.Common.{ℕ, suc, zero, List, [], ◌∷◌, ◌++◌, ◌+◌, ◌<◌, ◌≤◌, ◌≡◌, inl, inr, ◌==◌}
use Rattle.std.proofs.Common.{length, take, get_or, slice_set, Option, Some, None, refl, sym, ap, ◌∙◌, subst, arith, append_assoc, if◌then◌else◌}
use Rattle.std.proofs.lemmas.Bool.{cases_eq, cases_lt, ne_eqb}
use Rattle.std.proofs.lemmas.List.{get_or-take, get_or-set_same, get_or-set_other, length-append, length-set, length-take, get_or_append_left}
use Rattle.std.proofs.lemmas.List.{get_or-append-add}
use Rattle.markdown_inlines.specs.declared.emphasis.Delimiters.{Delimiters}
use Rattle.markdown_inlines.specs.declared.emphasis.Emphasis.{Emphasis}
use Rattle.markdown_inlines.specs.Emphasis.{left, nearest, used, made_of, openers_left, closer_left, opener_for, Ended, ended_by, none_ended, with_first}
use Rattle.markdown_inlines.specs.Emphasis.{ended}
use Rattle.markdown_inlines.specs.EmphasisBounds.{AreLeft}

-- more emphasis, and this before it
abbrev pub after : List Emphasis → Ended → Ended
after done more = record more { emphasis = done ++ more.emphasis }

abbrev pub stepped : ℕ → Delimiters → List Delimiters → Option (Delimiters × List Delimiters) → Ended
stepped n closer openers found =
    elim found [
      | None ↦ none_ended closer openers
      | Some r ↦ with_first (made_of r.0 closer) (ended_by n (closer_left closer (used r.0 closer)) (openers_left r.0 (used r.0 closer) r.1))
    ]

has_left : (closer : Delimiters) (openers : List Delimiters) → 0 < left closer → opener_for closer openers ≡ nearest closer.run openers
has_left closer openers some =
    ap (λ b. if b then None else nearest closer.run openers) (ne_eqb (left closer) 0 (λ none. absurd (omega (arith, some, none))))

-- a step with the nearest opener
pub step_made : (n : ℕ) (closer opener : Delimiters) (openers outer : List Delimiters) → 0 < left closer
    → nearest closer.run openers ≡ Some (opener, outer)
    → ended_by (suc n) closer openers
    ≡ with_first (made_of opener closer) (ended_by n (closer_left closer (used opener closer)) (openers_left opener (used opener closer) outer))
step_made n closer opener openers outer some found = ap (stepped n closer openers) (has_left closer openers some ∙ found)

-- no step
pub step_none : (n : ℕ) (closer : Delimiters) (openers : List Delimiters) → opener_for closer openers ≡ None
    → ended_by n closer openers ≡ none_ended closer openers
step_none zero closer openers none = refl
step_none (suc n) closer openers none = ap (stepped n closer openers) none

pub none_for_empty : (closer : Delimiters) (openers : List Delimiters) → left closer ≡ 0 → opener_for closer openers ≡ None
none_for_empty closer openers none = ap (λ n. if n == 0 then None else nearest closer.run openers) none

pub none_for : (closer : Delimiters) (openers : List Delimiters) → nearest closer.run openers ≡ None → opener_for closer openers ≡ None
none_for closer openers none = elim (cases_eq (left closer) 0) [
  | inl empty ↦ none_for_empty closer openers empty
  | inr some ↦ ap (λ b. if b then None else nearest closer.run openers) (ne_eqb (left closer) 0 some) ∙ none
]

-- after a step
pub step_more : (run closer : Delimiters) (before openers next : List Delimiters) (n : ℕ) (done : List Emphasis) (made : Emphasis)
    → ended run before ≡ after done (ended_by n closer openers)
    → ((m : ℕ) → ended_by (suc m) closer openers ≡ with_first made (ended_by m (closer_left closer made.count) next))
    → left closer ≤ n → 0 < made.count → closer.start + made.count ≤ closer.end
    → (m : ℕ) × (left (closer_left closer made.count) ≤ m)
    × (ended run before ≡ after (done ++ made ∷ []) (ended_by m (closer_left closer made.count) next))
step_more run closer before openers next zero done made whole goes few some within = absurd (omega (arith, few, some, within))
step_more run closer before openers next (suc m) done made whole goes few some within = (
  m,
  omega (arith, few, some, within),
  whole ∙ ap (after done) (goes m)
      ∙ ap (λ es. record (ended_by m (closer_left closer made.count) next) { emphasis = es })
      (sym (append_assoc done (made ∷ []) (ended_by m (closer_left closer made.count) next).emphasis)),
)

-- openers that have delimiters left
pub left_taken : (openers : List Delimiters) (n : ℕ) → AreLeft openers → AreLeft (take n openers)
left_taken openers n are k d within =
    let length_is = length-take n openers in
    subst (λ (o : Delimiters). o.start < o.end) (sym (get_or-take n openers k d (omega (arith, within, length_is))))
    (are k d (omega (arith, within, length_is)))

pub left_set : (openers : List Delimiters) (n : ℕ) (o : Delimiters) → n < length openers → o.start < o.end → AreLeft openers
    → AreLeft (slice_set openers n o)
left_set openers n o inside some are k d within = elim (cases_eq k n) [
  | inl same ↦ subst (λ (x : Delimiters). x.start < x.end)
      (sym (ap (λ i. get_or (slice_set openers n o) i d) same ∙ get_or-set_same openers n o d inside)) some
  | inr other ↦ subst (λ (x : Delimiters). x.start < x.end) (sym (get_or-set_other openers n k o d other))
      (are k d (omega (arith, within, length-set openers n o)))
]

pub left_push : (openers : List Delimiters) (o : Delimiters) → o.start < o.end → AreLeft openers → AreLeft (openers ++ o ∷ [])
left_push openers o some are k d within = elim (cases_lt k (length openers)) [
  | inl inside ↦ subst (λ (x : Delimiters). x.start < x.end) (sym (get_or_append_left openers (o ∷ []) d k inside)) (are k d inside)
  | inr last ↦
      let same : k ≡ length openers + 0 = omega (arith, last, within, length-append openers (o ∷ [])) in
      subst (λ (x : Delimiters). x.start < x.end)
      (sym (ap (λ i. get_or (openers ++ o ∷ []) i d) same ∙ get_or-append-add openers (o ∷ []) 0 d)) some
]
