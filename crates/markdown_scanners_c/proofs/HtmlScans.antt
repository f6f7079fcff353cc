-- What C learns of a scan of inline HTML under a guard, by what the scan answers.
use Rattle.std.proofs.Common.{ℕ, ◌≤◌, ◌<◌, ◌≡◌, List, [], ◌∷◌, ◌++◌, Option, Some, None, inl, inr, refl, sym, ap, subst, ◌∙◌, arith, zero-add}
use Rattle.std.specs.Prelude.{◌≢◌, Result, Ok, Err, IfSome, IfOk, IfErr, OnOk, OnErr}
use Rattle.markdown_scanners_tree.specs.declared.inline_html.HtmlScanGuard.{HtmlScanGuard}
use Rattle.markdown_scanners_tree.specs.declared.inline_html.HtmlStop.{HtmlStop}
use Rattle.markdown_scanners_tree.specs.declared.inline_html.HtmlStop.TheVariants.{NoOpener}
use Rattle.markdown_scanners_tree.specs.inline_html.CountedText.{CountedBytes}
use Rattle.markdown_scanners_tree.specs.inline_html.Guard.{answer_of_scan, guard_after_scan, text_after_scan, IsTrueGuard, IsTrueScan}
use Rattle.markdown_scanners_tree.specs.inline_html.InlineHtml.{opening_at, opener_before, find_at}
use Rattle.markdown_scanners_tree.specs.inline_html.run.KeptGuard.{first_guard, AreScanPlaces, guard_after_scans, bytes_scanned}
use Rattle.markdown_scanners_tree.proofs.ForCallers.{opener-bounds, opener-there, IsTrueGuard-later, first-true, next_scan}
use Rattle.markdown_scanners_c.specs.Finds.{IsFindEnd}
use Rattle.markdown_scanners_c.specs.Guards.{scan_guard, new_guard, IsAnswerReturned, IsGuardedEnd, IsTrueEnd, IsScanInTurn}
use Rattle.markdown_scanners_c.specs.declared.html.Guard.{Guard}
use Rattle.markdown_scanners_c.specs.private.ScanReturned.{scan_returned}

-- the four numbers of a guard
abbrev guard_returned : HtmlScanGuard → Guard
guard_returned guard = record {
  comment = guard.comment;
  cdata = guard.cdata;
  declaration = guard.declaration;
  processing = guard.processing;
}

module _ (bytes : List ℕ) (offset : ℕ) (old new : Guard) (answer : Result (Option ℕ) HtmlStop) (text : CountedBytes) where
  abbrev start : CountedBytes
  start = record { text = bytes; passed = 0 }

  -- what the scan ensures of the text and of the guards, as C keeps them
  pub record IsScan : Type 0 where
    pub refused : IfErr answer (λ why. (why ≡ NoOpener) × (opener_before bytes offset ≡ None))
    pub opened : OnOk answer (opener_before bytes offset ≢ None)
    pub unchanged : OnErr answer ((text ≡ start) × (scan_guard new ≡ scan_guard old))
    pub answers : IfOk answer (λ found. found ≡ answer_of_scan opening_at bytes (scan_guard old) offset)
    pub guards : OnOk answer (scan_guard new ≡ guard_after_scan opening_at bytes (scan_guard old) offset)
    pub counts : OnOk answer (text ≡ text_after_scan opening_at start (scan_guard old) offset)
    pub finds : IsTrueGuard bytes (scan_guard old) offset
        → IfOk answer (λ found. IsTrueScan bytes offset found (scan_guard new))

-- the end that C gets of it
module _ (bytes : List ℕ) (offset : ℕ) (old new : Guard) where
  returned : (found : Option ℕ) (passed : ℕ) → IsAnswerReturned found (scan_returned (Ok found) passed)
  returned None passed = (refl, refl)
  returned (Some end) passed = (refl, refl)

  passed-returned : (found : Option ℕ) (passed : ℕ) → (scan_returned (Ok found) passed).passed ≡ passed
  passed-returned None passed = refl
  passed-returned (Some end) passed = refl

  pub guarded : (answer : Result (Option ℕ) HtmlStop) (text : CountedBytes) → IsScan bytes offset old new answer text
      → IsGuardedEnd bytes offset old new (scan_returned answer text.passed)
  guarded (Err why) text scan =
      inl (scan.refused.1, ap guard_returned scan.unchanged.1, refl, refl, ap (λ t. t.passed) scan.unchanged.0)
  guarded (Ok found) text scan = inr (
    scan.opened,
    record {
      answers = subst (λ a. IsAnswerReturned a (scan_returned (Ok found) text.passed)) scan.answers (returned found text.passed);
      guards = scan.guards;
      counts = passed-returned found text.passed ∙ ap (λ t. t.passed) scan.counts ∙ zero-add _;
    },
  )

  find_returned : (found : Option ℕ) (passed : ℕ) → opener_before bytes offset ≢ None → found ≡ find_at bytes offset
      → IsFindEnd bytes offset (scan_returned (Ok found) passed)
  find_returned None passed opened finds = inr (inl (refl, refl, opened, sym finds))
  find_returned (Some end) passed opened finds = inr (inr (refl, sym finds))

  outside : (found : Option ℕ) (passed later : ℕ) → (scan_returned (Ok found) passed).end ≤ later
      → IfSome found (λ end. end ≤ later)
  outside None passed later after = tt
  outside (Some end) passed later after = after

  -- a guard that is true at each later offset, and at the offset where an opener ends there
  true_end : (answer : Result (Option ℕ) HtmlStop) (text : CountedBytes) → IsScan bytes offset old new answer text
      → (opener_before bytes offset ≢ None → IsTrueGuard bytes (scan_guard old) offset)
      → ((later : ℕ) → offset < later → IsTrueGuard bytes (scan_guard old) later)
      → IsTrueEnd bytes offset new (scan_returned answer text.passed)
  true_end (Err why) text scan here there = record {
    finds = inl (refl, refl, scan.refused.1);
    stays_true = λ later after past. rw scan.unchanged.1 (there later after);
  }
  true_end (Ok found) text scan here there =
      let is = scan.finds (here scan.opened) in
      record {
        finds = find_returned found text.passed scan.opened is.finds;
        stays_true = λ later after past. is.stays_true later after (outside found text.passed later past);
      }

  pub ends : (answer : Result (Option ℕ) HtmlStop) (text : CountedBytes) → IsScan bytes offset old new answer text
      → IsTrueGuard bytes (scan_guard old) offset → IsTrueEnd bytes offset new (scan_returned answer text.passed)
  ends answer text scan is =
      true_end answer text scan (λ opened. is)
      (λ later after. IsTrueGuard-later bytes (scan_guard old) offset later (omega (arith, after)) is)

  pub ends_first : (answer : Result (Option ℕ) HtmlStop) (text : CountedBytes) → IsScan bytes offset old new answer text
      → old ≡ new_guard → IsTrueEnd bytes offset new (scan_returned answer text.passed)
  ends_first answer text scan first =
      true_end answer text scan
      (λ opened.
      let mark = opener-there bytes offset opened in
      rw first (first-true bytes offset (omega (arith, (opener-bounds bytes offset mark.0 mark.1).0))))
      (λ later after. rw first (first-true bytes later (omega (arith, after))))

  -- a scan at the last of rising offsets outside earlier finds, under the guard that the others leave
  pub in_turn : (answer : Result (Option ℕ) HtmlStop) (text : CountedBytes) → IsScan bytes offset old new answer text
      → (earlier : List ℕ) → AreScanPlaces bytes (earlier ++ offset ∷ []) → scan_guard old ≡ guard_after_scans bytes first_guard earlier
      → IsScanInTurn bytes earlier offset new (scan_returned answer text.passed)
  in_turn (Err why) text scan earlier free same = absurd ((next_scan bytes earlier offset free).opened scan.refused.1)
  in_turn (Ok found) text scan earlier free same =
      let next = next_scan bytes earlier offset free in
      let counts : (scan_returned (Ok found) text.passed).passed ≡ bytes_scanned bytes (guard_after_scans bytes first_guard earlier) offset =
      passed-returned found text.passed ∙ ap (λ t. t.passed) scan.counts ∙ zero-add _ ∙ ap (λ g. bytes_scanned bytes g offset) same in
      record {
        finds = (ends (Ok found) text scan (rw same next.true_guard)).finds;
        guards = scan.guards ∙ ap (λ g. guard_after_scan opening_at bytes g offset) same ∙ sym next.guards;
        counts = omega (arith, counts, next.counts);
        budget = omega (arith, counts, next.counts, next.budget);
      }
