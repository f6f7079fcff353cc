-- No two emphases cross.
use Rattle.std.proofs.Common.{ℕ, suc, zero, Bool, true, false, not, List, [], ◌∷◌, ◌++◌, ◌+◌, ◌-◌, ◌<◌, ◌≤◌, ◌≡◌, ◌⊎◌, inl, inr, ◌==◌, ◌&&◌}
use Rattle.std.proofs.Common.{Option, Some, None, refl, sym, ap, ◌∙◌, subst, arith, if◌then◌else◌}
use Rattle.std.specs.Prelude.{⊤}
use Rattle.std.specs.List.{AllByRecursion}
use Rattle.std.proofs.lemmas.Bool.{and_parts, cases_eq, eq-eqb, ne_eqb}
use Rattle.markdown_inlines.specs.declared.delimiter_runs.DelimiterRun.{DelimiterRun}
use Rattle.markdown_inlines.specs.declared.emphasis.Delimiters.{Delimiters}
use Rattle.markdown_inlines.specs.declared.emphasis.Emphasis.{Emphasis}
use Rattle.markdown_inlines.specs.Emphasis.{left, fits, nearest, used, made_of, openers_left, closer_left, opener_for, Ended, ended_by, ended, opened}
use Rattle.markdown_inlines.specs.Emphasis.{emphasis_from, emphasis_of}
use Rattle.markdown_inlines.specs.EmphasisLaws.{AreInOrder, IsOutside, AreNested}
use Rattle.markdown_inlines.proofs.emphasis.EmphasisLemmas.{stepped}

pub all_both : {X : Type 0} (P : X → Type 0) (xs ys : List X) → AllByRecursion P xs → AllByRecursion P ys → AllByRecursion P (xs ++ ys)
all_both P [] ys all more = more
all_both P (x ∷ xs) ys all more = (all.0, all_both P xs ys all.1 more)

pub all_of : {X : Type 0} (P Q : X → Type 0) → ((x : X) → P x → Q x) → (xs : List X) → AllByRecursion P xs → AllByRecursion Q xs
all_of P Q each [] all = tt
all_of P Q each (x ∷ xs) all = (each x all.0, all_of P Q each xs all.1)

pub all_at : {X : Type 0} (P : X → Type 0) (xs : List X) (y : X) (ys : List X) → AllByRecursion P (xs ++ y ∷ ys) → P y
all_at P [] y ys all = all.0
all_at P (x ∷ xs) y ys all = all_at P xs y ys all.1

found_in : (b : Bool) (found : Delimiters × List Delimiters) (rest : Option (Delimiters × List Delimiters)) (r : Delimiters × List Delimiters)
    → (if b then Some found else rest) ≡ Some r → ((b ≡ true) × (found ≡ r)) ⊎ (rest ≡ Some r)
found_in true found rest r is = inl (refl, (let same : Some found ≡ Some r = is in cc))
found_in false found rest r is = inr is

-- of all openers the nearest that fits is one
pub nearest_all : (P : Delimiters → Type 0) (c : DelimiterRun) (openers : List Delimiters) (r : Delimiters × List Delimiters) → AllByRecursion P openers
    → nearest c openers ≡ Some r → P r.0 × AllByRecursion P r.1 × (fits c r.0.run ≡ true)
nearest_all P c [] r all is = cc
nearest_all P c (o ∷ openers) r all is = elim (found_in (fits c o.run) (o, openers) (nearest c openers) r is) [
  | inl here ↦ subst (λ (x : Delimiters × List Delimiters). P x.0 × AllByRecursion P x.1 × (fits c x.0.run ≡ true)) here.1 (all.0, all.1, here.0)
  | inr later ↦ nearest_all P c openers r all.1 later
]

-- what follows from a test whether a number is zero
if_zero : {X : Type 0} (n : ℕ) (x y : X) → n ≡ 0 → (if n == 0 then x else y) ≡ x
if_zero n x y none = ap (λ b. if b then x else y) (eq-eqb n 0 none)

if_some : {X : Type 0} (n : ℕ) (x y : X) → (n ≡ 0 → ⊥) → (if n == 0 then x else y) ≡ y
if_some n x y some = ap (λ b. if b then x else y) (ne_eqb n 0 some)

pub not_zero : (n : ℕ) → not (n == 0) ≡ true → 0 < n
not_zero n is = elim (cases_eq n 0) [
  | inl none ↦ (let bad : false ≡ true = sym (ap not (eq-eqb n 0 none)) ∙ is in cc)
  | inr some ↦ omega (arith, some)
]

pub opener_some : (closer : Delimiters) (openers : List Delimiters) (r : Delimiters × List Delimiters) → opener_for closer openers ≡ Some r
    → (0 < left closer) × (nearest closer.run openers ≡ Some r)
opener_some closer openers r is = elim (cases_eq (left closer) 0) [
  | inl none ↦ (let bad : None ≡ Some r = sym (if_zero (left closer) None (nearest closer.run openers) none) ∙ is in cc)
  | inr some ↦ (omega (arith, some), sym (if_some (left closer) None (nearest closer.run openers) some) ∙ is)
]

pub opened_all : (P : Delimiters → Type 0) (run : Delimiters) (openers : List Delimiters) → (run.run.can_open ≡ true → 0 < left run → P run)
    → AllByRecursion P openers → AllByRecursion P (opened run openers)
opened_all P run openers one all = by_test (run.run.can_open && not (left run == 0)) refl
  where
    by_test : (b : Bool) → (run.run.can_open && not (left run == 0)) ≡ b → AllByRecursion P (if b then run ∷ openers else openers)
    by_test true is = let both = and_parts run.run.can_open (not (left run == 0)) is in (one both.0 (not_zero (left run) both.1), all)
    by_test false is = all

pub openers_left_all : (P : Delimiters → Type 0) (o : Delimiters) (count : ℕ) (outer : List Delimiters)
    → (¬ (left o ≡ count) → P (record o { end = o.end - count })) → AllByRecursion P outer → AllByRecursion P (openers_left o count outer)
openers_left_all P o count outer one all = elim (cases_eq (left o) count) [
  | inl same ↦ subst (λ b. AllByRecursion P (if b then outer else record o { end = o.end - count } ∷ outer))
      (sym (eq-eqb (left o) count same)) all
  | inr other ↦ subst (λ b. AllByRecursion P (if b then outer else record o { end = o.end - count } ∷ outer))
      (sym (ne_eqb (left o) count other)) (one other, all)
]

module _ (a b : ℕ) where
  abbrev Beside : Delimiters → Type 0
  Beside o = (o.start ≤ o.end) × ((o.end ≤ a) ⊎ (b ≤ o.start))

  made_outside : (o closer : Delimiters) → Beside o → b ≤ closer.start → IsOutside a b (made_of o closer)
  made_outside o closer (fit, inl before) after = inl (omega (arith, fit, before), after)
  made_outside o closer (fit, inr following) after = inr (omega (arith, fit, following))

  beside_less : (o : Delimiters) (count : ℕ) → count ≤ left o → Beside o → Beside (record o { end = o.end - count })
  beside_less o count few (fit, inl before) = (omega (arith, few, fit), inl (omega (arith, before)))
  beside_less o count few (fit, inr following) = (omega (arith, few, fit), inr following)

  ended_outside : (n : ℕ) (closer : Delimiters) (openers : List Delimiters) → closer.start ≤ closer.end → b ≤ closer.start
      → AllByRecursion Beside openers
      → AllByRecursion (IsOutside a b) (ended_by n closer openers).emphasis × AllByRecursion Beside (ended_by n closer openers).openers
      × ((ended_by n closer openers).closer.start ≤ (ended_by n closer openers).closer.end) × (b ≤ (ended_by n closer openers).closer.start)
  ended_outside zero closer openers fit after all = (tt, all, fit, after)
  ended_outside (suc n) closer openers fit after all =
      by_found (λ c os fit from beside. ended_outside n c os fit from beside) (opener_for closer openers) refl
    where
      by_found : ((c : Delimiters) (os : List Delimiters) → c.start ≤ c.end → b ≤ c.start → AllByRecursion Beside os
          → AllByRecursion (IsOutside a b) (ended_by n c os).emphasis × AllByRecursion Beside (ended_by n c os).openers
          × ((ended_by n c os).closer.start ≤ (ended_by n c os).closer.end) × (b ≤ (ended_by n c os).closer.start))
          → (found : Option (Delimiters × List Delimiters)) → opener_for closer openers ≡ found
          → AllByRecursion (IsOutside a b) (stepped n closer openers found).emphasis × AllByRecursion Beside (stepped n closer openers found).openers
          × ((stepped n closer openers found).closer.start ≤ (stepped n closer openers found).closer.end)
          × (b ≤ (stepped n closer openers found).closer.start)
      by_found next None is = (tt, all, fit, after)
      by_found next (Some r) is =
          let one = nearest_all Beside closer.run openers r all (opener_some closer openers r is).1 in
          let more = next (closer_left closer (used r.0 closer)) (openers_left r.0 (used r.0 closer) r.1) (omega (arith, fit))
          (omega (arith, after))
          (openers_left_all Beside r.0 (used r.0 closer) r.1 (λ _. beside_less r.0 (used r.0 closer) (omega arith) one.0) one.1) in
          ((made_outside r.0 closer one.0 after, more.0), more.1, more.2, more.3)

  emphasis_outside : (openers runs : List Delimiters) → AllByRecursion Beside openers
      → AllByRecursion (λ run. (run.start ≤ run.end) × (b ≤ run.start)) runs → AllByRecursion (IsOutside a b) (emphasis_from openers runs)
  emphasis_outside openers [] all each = tt
  emphasis_outside openers (run ∷ later) all each =
      let now = ended_outside (if run.run.can_close then left run else 0) run openers each.0.0 each.0.1 all in
      all_both (IsOutside a b) (ended run openers).emphasis _ now.0
      (emphasis_outside (opened (ended run openers).closer (ended run openers).openers) later
      (opened_all Beside (ended run openers).closer (ended run openers).openers (λ _ _. (now.2, inr now.3)) now.1) each.1)

-- the openers stand one after another, the innermost first, and end at an offset at most
abbrev Stacked : ℕ → List Delimiters → Type 0
Stacked most [] = ⊤
Stacked most (o ∷ outer) = (o.start ≤ o.end) × (o.end ≤ most) × Stacked o.start outer

stacked_more : (most more : ℕ) (openers : List Delimiters) → most ≤ more → Stacked most openers → Stacked more openers
stacked_more most more [] few stacked = tt
stacked_more most more (o ∷ outer) few stacked = (stacked.0, omega (arith, few, stacked.1), stacked.2)

stacked_beside : (most b : ℕ) (openers : List Delimiters) → Stacked most openers → AllByRecursion (Beside most b) openers
stacked_beside most b [] stacked = tt
stacked_beside most b (o ∷ outer) stacked = (
  (stacked.0, inl stacked.1),
  stacked_beside most b outer (stacked_more o.start most outer (omega (arith, stacked.0, stacked.1)) stacked.2),
)

stacked_nearest : (most : ℕ) (c : DelimiterRun) (openers : List Delimiters) (r : Delimiters × List Delimiters) → Stacked most openers
    → nearest c openers ≡ Some r → (r.0.start ≤ r.0.end) × (r.0.end ≤ most) × Stacked r.0.start r.1
stacked_nearest most c [] r stacked is = cc
stacked_nearest most c (o ∷ outer) r stacked is = elim (found_in (fits c o.run) (o, outer) (nearest c outer) r is) [
  | inl here ↦ subst (λ (x : Delimiters × List Delimiters). (x.0.start ≤ x.0.end) × (x.0.end ≤ most) × Stacked x.0.start x.1) here.1 stacked
  | inr later ↦
      let inner = stacked_nearest o.start c outer r stacked.2 later in
      (inner.0, omega (arith, inner.1, stacked.0, stacked.1), inner.2)
]

stacked_left : (o : Delimiters) (count : ℕ) (outer : List Delimiters) → o.start ≤ o.end → count ≤ left o → Stacked o.start outer
    → Stacked (o.end - count) (openers_left o count outer)
stacked_left o count outer fit few stacked = elim (cases_eq (left o) count) [
  | inl same ↦ subst (λ b. Stacked (o.end - count) (if b then outer else record o { end = o.end - count } ∷ outer))
      (sym (eq-eqb (left o) count same))
      (stacked_more o.start (o.end - count) outer (omega (arith, fit, few)) stacked)
  | inr other ↦ subst (λ b. Stacked (o.end - count) (if b then outer else record o { end = o.end - count } ∷ outer))
      (sym (ne_eqb (left o) count other)) (omega (arith, fit, few), omega arith, stacked)
]

stacked_opened : (run : Delimiters) (openers : List Delimiters) → run.start ≤ run.end → Stacked run.start openers → Stacked run.end (opened run openers)
stacked_opened run openers fit stacked = by_test (run.run.can_open && not (left run == 0))
  where
    by_test : (b : Bool) → Stacked run.end (if b then run ∷ openers else openers)
    by_test true = (fit, omega arith, stacked)
    by_test false = stacked_more run.start run.end openers fit stacked

-- what is ended before the runs that are left
abbrev whole : Ended → List Delimiters → List Emphasis
whole e later = e.emphasis ++ emphasis_from (opened e.closer e.openers) later

abbrev Begins : ℕ → Delimiters → Type 0
Begins offset run = (run.start ≤ run.end) × (offset ≤ run.start)

outside_whole : (a b n : ℕ) (closer : Delimiters) (openers later : List Delimiters) → closer.start ≤ closer.end → b ≤ closer.start
    → AllByRecursion (Beside a b) openers → AllByRecursion (Begins b) later → AllByRecursion (IsOutside a b) (whole (ended_by n closer openers) later)
outside_whole a b n closer openers later fit after all each =
    let now = ended_outside a b n closer openers fit after all in
    let e = ended_by n closer openers in
    all_both (IsOutside a b) e.emphasis (emphasis_from (opened e.closer e.openers) later) now.0
    (emphasis_outside a b (opened e.closer e.openers) later (opened_all (Beside a b) e.closer e.openers (λ _ _. (now.2, inr now.3)) now.1) each)

nested_step : (n : ℕ) (closer : Delimiters) (openers later : List Delimiters) → closer.start ≤ closer.end → Stacked closer.start openers
    → AllByRecursion (Begins closer.end) later
    → ((c : Delimiters) (os : List Delimiters) → c.start ≤ c.end → c.end ≡ closer.end → Stacked c.start os → AreNested (emphasis_from (opened c os) later))
    → AreNested (whole (ended_by n closer openers) later)
nested_step zero closer openers later fit stacked each rest = rest closer openers fit refl stacked
nested_step (suc n) closer openers later fit stacked each rest =
    by_found (λ c os fit below begins ends. nested_step n c os later fit below begins ends) (opener_for closer openers) refl
  where
    by_found : ((c : Delimiters) (os : List Delimiters) → c.start ≤ c.end → Stacked c.start os → AllByRecursion (Begins c.end) later
        → ((d : Delimiters) (rs : List Delimiters) → d.start ≤ d.end → d.end ≡ c.end → Stacked d.start rs
        → AreNested (emphasis_from (opened d rs) later)) → AreNested (whole (ended_by n c os) later))
        → (found : Option (Delimiters × List Delimiters)) → opener_for closer openers ≡ found → AreNested (whole (stepped n closer openers found) later)
    by_found next None is = rest closer openers fit refl stacked
    by_found next (Some r) is =
        let one = stacked_nearest closer.start closer.run openers r stacked (opener_some closer openers r is).1 in
        let count = used r.0 closer in
        let less = stacked_left r.0 count r.1 one.0 (omega arith) one.2 in
        let inside : closer.start + count ≤ closer.end = omega (arith, fit) in (
          outside_whole (r.0.end - count) (closer.start + count) n (closer_left closer count) (openers_left r.0 count r.1) later inside (omega arith)
              (stacked_beside (r.0.end - count) (closer.start + count) (openers_left r.0 count r.1) less)
              (all_of (Begins closer.end) (Begins (closer.start + count)) (λ run begins. (begins.0, omega (arith, inside, begins.1))) later each),
          next (closer_left closer count) (openers_left r.0 count r.1) inside
              (stacked_more (r.0.end - count) (closer.start + count) (openers_left r.0 count r.1) (omega (arith, one.1)) less) each rest,
        )

in_order : (offset : ℕ) (runs : List Delimiters) → AllByRecursion (λ other. offset ≤ other.start) runs → AreInOrder runs → AllByRecursion (Begins offset) runs
in_order offset [] all order = tt
in_order offset (run ∷ later) all order = ((order.0, all.0), in_order offset later all.1 order.2)

nested_from : (runs openers : List Delimiters) (offset : ℕ) → Stacked offset openers → AllByRecursion (λ run. offset ≤ run.start) runs → AreInOrder runs
    → AreNested (emphasis_from openers runs)
nested_from [] openers offset stacked all order = tt
nested_from (run ∷ later) openers offset stacked all order =
    nested_step (if run.run.can_close then left run else 0) run openers later order.0 (stacked_more offset run.start openers all.0 stacked)
    (in_order run.end later order.1 order.2)
    (λ c os fit ends below. nested_from later (opened c os) run.end (subst (λ n. Stacked n (opened c os)) ends (stacked_opened c os fit below))
    order.1 order.2)

-- the emphasis of runs that stand one after another nests
pub emphasis_nests : (runs : List Delimiters) → AreInOrder runs → AreNested (emphasis_of runs)
emphasis_nests runs order = nested_from runs [] 0 tt (from_0 runs) order
  where
    from_0 : (rs : List Delimiters) → AllByRecursion (λ run. 0 ≤ run.start) rs
    from_0 [] = tt
    from_0 (r ∷ rs) = (omega arith, from_0 rs)
