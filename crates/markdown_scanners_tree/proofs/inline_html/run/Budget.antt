-- What the steps of a run pass over is within the budget.
use Rattle.std.proofs.Common.{◌≡◌, ℕ, ◌+◌, ◌-◌, ◌*◌, ◌≤◌, ◌<◌, Bool, true, false, List, length, refl, ap, arith, Option, Some, None, cond}
use Rattle.std.specs.Prelude.{IfSome, unwrap_or}
use Rattle.std.proofs.Math.Nat.{mul-le-mul_right, add-mul}
use Rattle.markdown_scanners_tree.specs.inline_html.InlineHtml.{Kind, Comment, Cdata, Declaration, Processing, Opening, Begins, Hyphen, Bracket, Nothing}
use Rattle.markdown_scanners_tree.specs.inline_html.InlineHtml.{closed_at, end_of, opening_at, span, searched, looked_at, cost}
use Rattle.markdown_scanners_tree.specs.inline_html.run.Run.{ShutKinds, Run, is_shut, shutting, shut_by, one_if, count_shut, run_step, IsWithinBudget}
use Rattle.markdown_scanners_tree.proofs.inline_html.ScanBounds.{end_of-bounds, looked_at-le, searched-le}

one_if-le : (b : Bool) → one_if b ≤ 1
one_if-le true = omega arith
one_if-le false = omega arith

count_shut-le : (shut : ShutKinds) → count_shut shut ≤ 4
count_shut-le shut =
    omega (arith, one_if-le shut.comment, one_if-le shut.cdata, one_if-le shut.declaration, one_if-le shut.processing)

-- to shut a kind counts one more, or changes nothing
count_shut-shutting : (shut : ShutKinds) (kind : Kind) → is_shut shut kind ≡ false
    → count_shut (shutting shut kind) ≡ count_shut shut + 1
count_shut-shutting shut Comment e = rw e (omega arith)
count_shut-shutting shut Cdata e = rw e (omega arith)
count_shut-shutting shut Declaration e = rw e (omega arith)
count_shut-shutting shut Processing e = rw e (omega arith)

count_shut-again : (shut : ShutKinds) (kind : Kind) → is_shut shut kind ≡ true
    → count_shut (shutting shut kind) ≡ count_shut shut
count_shut-again shut Comment e = rw e
count_shut-again shut Cdata e = rw e
count_shut-again shut Declaration e = rw e
count_shut-again shut Processing e = rw e

-- the sums of a budget, in numbers: n bytes, s shut kinds, the find's end e, passed, steps
pub record IsSum (n s e passed steps : ℕ) : Type 0 where
  pub whole : passed ≤ 4 * n + 8 * steps
  pub while_open : s < 4 → passed ≤ s * n + e + 8 * steps

-- a step that makes no search
sum-looked : (n s e passed steps count e' : ℕ) → IsSum n s e passed steps → count ≤ 7 → e ≤ e'
    → IsSum n s e' (passed + count) (steps + 1)
sum-looked n s e passed steps count e' is at_most_seven later = record {
  whole = omega (arith, is.whole);
  while_open = λ open_kind. let before = is.while_open open_kind in omega arith;
}

-- a search that is closed: searches that are closed do not overlap
sum-closed : (n s e passed steps p e' : ℕ) → IsSum n s e passed steps → s < 4 → e ≤ p → p ≤ e' → e' ≤ n → (count : ℕ)
    → count ≤ 2 + (e' - p) → IsSum n s e' (passed + count) (steps + 1)
sum-closed n s e passed steps p e' is free after reach in_text count small =
    let before = is.while_open free in
    let three : s * n ≤ 3 * n = mul-le-mul_right n (omega arith) in
    record { whole = omega arith; while_open = λ _. omega arith }

-- a search that is not closed shuts its kind
sum-unclosed : (n s e passed steps p : ℕ) → IsSum n s e passed steps → s < 4 → e ≤ p → p ≤ n → (count : ℕ)
    → count ≤ 2 + (n - p) → IsSum n (s + 1) e (passed + count) (steps + 1)
sum-unclosed n s e passed steps p is free after in_text count small =
    let before = is.while_open free in
    let three : s * n ≤ 3 * n = mul-le-mul_right n (omega arith) in
    let more : (s + 1) * n ≡ s * n + 1 * n = add-mul s 1 n in
    record { whole = omega arith; while_open = λ _. omega arith }

module _ (text : List ℕ) (shut : ShutKinds) (e passed steps p : ℕ) (is : IsSum (length text) (count_shut shut) e passed steps) (after : e ≤ p) (in_text : p ≤ length text) where
  -- the budget after a step of some opening
  abbrev Stepped : Opening → Option ℕ → ℕ → Type 0
  Stepped opening found count =
      IsSum (length text) (count_shut (shut_by shut opening found)) (unwrap_or found e) (passed + count) (steps + 1)

  still-shut : (kind : Kind) → is_shut shut kind ≡ true → (found : Option ℕ)
      → IfSome found (λ end. (p ≤ end) × (end ≤ length text)) → Stepped (Begins kind) found (looked_at kind)
  still-shut kind shuts None bounds =
      rw (count_shut-again shut kind shuts) (sum-looked (length text) (count_shut shut) e passed steps (looked_at kind) e is (looked_at-le kind) (omega arith))
  still-shut kind shuts (Some end) bounds =
      sum-looked (length text) (count_shut shut) e passed steps (looked_at kind) end is (looked_at-le kind) (omega (arith, bounds.0))

  open-kind : (kind : Kind) → is_shut shut kind ≡ false → (found : Option ℕ)
      → IfSome found (λ end. (p ≤ end) × (end ≤ length text)) → (count : ℕ) → count ≤ 2 + span text p found
      → Stepped (Begins kind) found count
  open-kind kind free None bounds count small =
      let more = count_shut-shutting shut kind free in
      let some_open : count_shut shut < 4 = omega (arith, count_shut-le (shutting shut kind)) in
      rw more (sum-unclosed (length text) (count_shut shut) e passed steps p is some_open after in_text count small)
  open-kind kind free (Some end) bounds count small =
      let some_open : count_shut shut < 4 =
      omega (arith, count_shut-le (shutting shut kind), count_shut-shutting shut kind free) in
      sum-closed (length text) (count_shut shut) e passed steps p end is some_open after bounds.0 bounds.1 count small

  begins : (kind : Kind) (shuts : Bool) → is_shut shut kind ≡ shuts → (found : Option ℕ) → closed_at text kind p ≡ found
      → IfSome found (λ end. (p ≤ end) × (end ≤ length text))
      → Stepped (Begins kind) found (cond shuts (looked_at kind) (searched text kind p))
  begins kind true shuts found same bounds = still-shut kind shuts found bounds
  begins kind false free found same bounds =
      open-kind kind free found bounds (searched text kind p) (omega (arith, searched-le text kind p, ap (span text p) same))

  hyphen : (shuts : Bool) → Stepped Hyphen None (cond shuts 1 2)
  hyphen true = sum-looked (length text) (count_shut shut) e passed steps 1 e is (omega arith) (omega arith)
  hyphen false = sum-looked (length text) (count_shut shut) e passed steps 2 e is (omega arith) (omega arith)

  step-sum : (opening : Opening) → Stepped opening (end_of text opening p) (cost text (is_shut shut) opening p)
  unfolding cost
  step-sum (Begins kind) = begins kind _ refl _ refl (end_of-bounds text (Begins kind) p)
  step-sum Hyphen = hyphen (is_shut shut Comment)
  step-sum Bracket = sum-looked (length text) (count_shut shut) e passed steps 7 e is (omega arith) (omega arith)
  step-sum Nothing = sum-looked (length text) (count_shut shut) e passed steps 1 e is (omega arith) (omega arith)

-- a step that is not refused keeps the budget
pub run_step-budget : (run : Run) (p : ℕ) → IsWithinBudget run → run.find_end ≤ p → p ≤ length run.text
    → IsWithinBudget (run_step run p)
run_step-budget run p is after in_text =
    let stepped =
    step-sum run.text run.shut run.find_end run.passed run.steps p
    (record { whole = is.whole; while_open = is.while_open }) after in_text (opening_at run.text p) in
    record { whole = stepped.whole; while_open = stepped.while_open }
