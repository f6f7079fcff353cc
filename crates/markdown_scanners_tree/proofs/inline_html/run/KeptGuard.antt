-- Scans under a guard that a caller keeps are the steps of a run: they find what is there, and keep its budget.
use Rattle.std.proofs.Common.{◌≡◌, ℕ, ◌+◌, ◌*◌, ◌≤◌, ◌<◌, Bool, true, false, List, [], ◌∷◌, ◌++◌, length, length-append, refl, sym, subst, ◌∙◌, arith, Option, Some, None, cond}
use Rattle.std.specs.Prelude.{unwrap_or, nat_le, nat_lt, is_none}
use Rattle.std.proofs.lemmas.Bool.{ltb-true, leb-true, ltb-false, leb-false}
use Rattle.markdown_scanners_tree.specs.declared.inline_html.HtmlScanGuard.{HtmlScanGuard}
use Rattle.markdown_scanners_tree.specs.declared.inline_html.HtmlStop.{HtmlStop}
use Rattle.markdown_scanners_tree.specs.declared.inline_html.HtmlStop.TheVariants.{NoOpener, NotRising, InsideFind}
use Rattle.markdown_scanners_tree.specs.inline_html.CountedText.{CountedBytes, passing}
use Rattle.markdown_scanners_tree.specs.inline_html.InlineHtml.{Comment, Cdata, Declaration, Processing, opener_before, opening_at}
use Rattle.markdown_scanners_tree.specs.inline_html.Guard.{answer_of_scan, guard_after_scan, IsTrueGuard, IsTrueScan}
use Rattle.markdown_scanners_tree.specs.inline_html.run.KeptGuard.{first_guard, AreScanPlaces, guard_after_scans, bytes_scanned, all_bytes_scanned, IsNextScan}
use Rattle.markdown_scanners_tree.specs.inline_html.run.Run.{Run, new_run, offset_refusal, run_step, run_stop, stop_at}
use Rattle.markdown_scanners_tree.specs.inline_html.run.private.RunFields.{run_of, AreRunFields}
use Rattle.markdown_scanners_tree.proofs.inline_html.TrueGuards.{opener-bounds, true-opening}
use Rattle.markdown_scanners_tree.proofs.inline_html.run.GuardsStay.{fields-stay, run-steps}

-- ---- an offset that is not refused

-- what the three tests say of it
record IsFree (opener : Option ℕ) (low inside : Bool) : Type 0 where
  mark : ℕ
  opened : opener ≡ Some mark
  later : low ≡ false
  outside : inside ≡ false

free-tests : (opener : Option ℕ) (low inside : Bool)
    → cond (is_none opener) (Some NoOpener) (cond low (Some NotRising) (cond inside (Some InsideFind) None)) ≡ None
    → IsFree opener low inside
free-tests None low inside e = cc
free-tests (Some mark) true inside e = cc
free-tests (Some mark) false true e = cc
free-tests (Some mark) false false e = record { mark = mark; opened = refl; later = refl; outside = refl }

free-offset : (run : Run) (p : ℕ) → offset_refusal run p ≡ None
    → IsFree (opener_before run.text p) (nat_le p run.last) (nat_lt p run.find_end)
free-offset run p free = free-tests (opener_before run.text p) (nat_le p run.last) (nat_lt p run.find_end) free

-- no offset of a list is refused: not the first, and none of the others after it
all-free : (why : Option HtmlStop) (i : ℕ) (others : Option (ℕ × HtmlStop)) → stop_at why i others ≡ None
    → (why ≡ None) × (others ≡ None)
all-free None i others e = (refl, e)
all-free (Some stop) i others e = cc

-- ---- one scan, as a step

module _ (t : CountedBytes) (guard : HtmlScanGuard) (last e steps : ℕ) (fields : AreRunFields t guard last e steps) (p : ℕ) (free : offset_refusal (run_of t guard last e steps) p ≡ None) where
  is : IsFree (opener_before t.text p) (nat_le p last) (nat_lt p e)
  is = free-offset (run_of t guard last e steps) p free

  after-last : last < p
  after-last = leb-false p last is.later

  after-find : e ≤ p
  after-find = ltb-false p e is.outside

  true-here : IsTrueGuard t.text guard p
  true-here = fields.true_guard p after-last after-find

  scan : IsTrueScan t.text p (answer_of_scan opening_at t.text guard p) (guard_after_scan opening_at t.text guard p)
  scan = true-opening t.text guard p is.mark is.opened true-here

  abbrev find_end : ℕ
  find_end = unwrap_or (answer_of_scan opening_at t.text guard p) e

  abbrev counted : CountedBytes
  counted = passing t (bytes_scanned t.text guard p)

  next-run : run_of counted (guard_after_scan opening_at t.text guard p) p find_end (steps + 1)
      ≡ run_step (run_of t guard last e steps) p
  next-run =
      let within = opener-bounds t.text p is.mark is.opened in
      run-steps t guard last e steps p fields within.0 within.1 after-find is.mark is.opened _ _ counted refl refl refl scan

  next-fields : AreRunFields counted (guard_after_scan opening_at t.text guard p) p find_end (steps + 1)
  next-fields =
      let within = opener-bounds t.text p is.mark is.opened in
      fields-stay t guard last e steps p fields within.0 within.1 after-find is.mark is.opened _ _ counted refl refl refl scan after-last

-- ---- all scans

-- what scans pass over is within the budget of the steps before them and theirs
scans-sum : (offsets : List ℕ) (t : CountedBytes) (guard : HtmlScanGuard) (last e steps i : ℕ) → AreRunFields t guard last e steps
    → run_stop (run_of t guard last e steps) i offsets ≡ None
    → t.passed + all_bytes_scanned t.text guard offsets ≤ 4 * length t.text + 8 * (steps + length offsets)
scans-sum [] t guard last e steps i fields free = omega (arith, fields.budget.whole)
scans-sum (p ∷ offsets) t guard last e steps i fields free =
    let parts = all-free (offset_refusal (run_of t guard last e steps) p) i _ free in
    let others = subst (λ run. run_stop run (i + 1) offsets ≡ None) (sym (next-run t guard last e steps fields p parts.0)) parts.1 in
    let sum = scans-sum offsets _ _ p _ (steps + 1) (i + 1) (next-fields t guard last e steps fields p parts.0) others in
    omega (arith, sum)

-- the guard that scans leave is true at the next offset
true-next : (earlier : List ℕ) (p : ℕ) (t : CountedBytes) (guard : HtmlScanGuard) (last e steps i : ℕ) → AreRunFields t guard last e steps
    → run_stop (run_of t guard last e steps) i (earlier ++ p ∷ []) ≡ None
    → IsTrueGuard t.text (guard_after_scans t.text guard earlier) p
true-next [] p t guard last e steps i fields free =
    let parts = all-free (offset_refusal (run_of t guard last e steps) p) i _ free in
    true-here t guard last e steps fields p parts.0
true-next (q ∷ earlier) p t guard last e steps i fields free =
    let parts = all-free (offset_refusal (run_of t guard last e steps) q) i _ free in
    let others = subst (λ run. run_stop run (i + 1) (earlier ++ p ∷ []) ≡ None) (sym (next-run t guard last e steps fields q parts.0)) parts.1 in
    true-next earlier p _ _ q _ (steps + 1) (i + 1) (next-fields t guard last e steps fields q parts.0) others

-- an opener ends at each offset of a list of which none is refused
opened-in : (earlier : List ℕ) (p : ℕ) (run : Run) (i : ℕ) → run_stop run i (earlier ++ p ∷ []) ≡ None
    → opener_before run.text p ≡ None → ⊥
opened-in [] p run i free none =
    let is = free-offset run p (all-free (offset_refusal run p) i _ free).0 in
    let clash : None ≡ Some is.mark = sym none ∙ is.opened in cc
opened-in (q ∷ earlier) p run i free none =
    opened-in earlier p (run_step run q) (i + 1) (all-free (offset_refusal run q) i _ free).1 none

-- ---- from the front of a text

-- the first guard stops nothing at an offset above 0
pub first-true : (text : List ℕ) (q : ℕ) → 0 < q → IsTrueGuard text first_guard q
first-true text q some Comment stopped = absurd (omega (arith, ltb-true q 0 stopped))
first-true text q some Cdata stopped = absurd (omega (arith, ltb-true q 0 stopped))
first-true text q some Declaration stopped = absurd (omega (arith, ltb-true q 0 stopped))
first-true text q some Processing stopped = absurd (omega (arith, leb-true q 0 stopped))

first-fields : (text : List ℕ) → AreRunFields (record { text = text; passed = 0 }) first_guard 0 0 0
first-fields text = record {
  true_guard = λ q later outside. first-true text q later;
  low_comment = λ other. omega arith;
  low_cdata = λ other. refl;
  low_declaration = λ other. refl;
  low_processing = λ other. refl;
  new_guard = λ none. (refl, refl, refl, refl);
  steps_at_most_last = omega arith;
  last_in_text = omega arith;
  find_end_in_text = omega arith;
  budget = record { whole = omega arith; while_open = λ some. omega arith };
}

-- ---- one scan more

guard-more : (text : List ℕ) (guard : HtmlScanGuard) (earlier : List ℕ) (p : ℕ)
    → guard_after_scans text guard (earlier ++ p ∷ []) ≡ guard_after_scan opening_at text (guard_after_scans text guard earlier) p
guard-more text guard [] p = refl
guard-more text guard (q ∷ earlier) p = guard-more text (guard_after_scan opening_at text guard q) earlier p

bytes-more : (text : List ℕ) (guard : HtmlScanGuard) (earlier : List ℕ) (p : ℕ)
    → all_bytes_scanned text guard (earlier ++ p ∷ [])
    ≡ all_bytes_scanned text guard earlier + bytes_scanned text (guard_after_scans text guard earlier) p
bytes-more text guard [] p = omega arith
bytes-more text guard (q ∷ earlier) p = omega (arith, bytes-more text (guard_after_scan opening_at text guard q) earlier p)

-- a scan at the last of some offsets of which a run refuses none, under the guard that scans at the others leave
pub next_scan : (text earlier : List ℕ) (p : ℕ) → AreScanPlaces text (earlier ++ p ∷ []) → IsNextScan text earlier p
next_scan text earlier p free =
    let counted : CountedBytes = record { text = text; passed = 0 } in
    let sum = scans-sum (earlier ++ p ∷ []) counted first_guard 0 0 0 0 (first-fields text) free in
    record {
      opened = opened-in earlier p (new_run text) 0 free;
      true_guard = true-next earlier p counted first_guard 0 0 0 0 (first-fields text) free;
      guards = guard-more text first_guard earlier p;
      counts = bytes-more text first_guard earlier p;
      budget = omega (arith, sum, length-append earlier (p ∷ []));
    }
