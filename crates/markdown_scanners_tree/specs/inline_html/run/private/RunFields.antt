-- The fields of a run of scans.
use Rattle.std.specs.Prelude.{ℕ, ◌≡◌, ◌≢◌, ◌≤◌, ◌<◌, ◌^◌, Bool, ◌&&◌, ◌==◌, nat_lt, length}
use Rattle.markdown_scanners_tree.specs.declared.inline_html.HtmlScanGuard.{HtmlScanGuard}
use Rattle.markdown_scanners_tree.specs.inline_html.CountedText.{CountedBytes}
use Rattle.markdown_scanners_tree.specs.inline_html.Guard.{IsTrueGuard}
use Rattle.markdown_scanners_tree.specs.inline_html.run.Run.{ShutKinds, Run, IsWithinBudget}

-- a guard's number of the text's length, once a step was made, says that a kind is shut
abbrev pub says_shut : ℕ → ℕ → ℕ → Bool
says_shut number size steps = nat_lt 0 steps && number == size

abbrev pub shut_kinds : ℕ → HtmlScanGuard → ℕ → ShutKinds
shut_kinds size guard steps = record {
  comment = says_shut guard.comment size steps;
  cdata = says_shut guard.cdata size steps;
  declaration = says_shut guard.declaration size steps;
  processing = says_shut guard.processing size steps;
}

-- the run that the fields stand for
abbrev pub run_of : CountedBytes → HtmlScanGuard → ℕ → ℕ → ℕ → Run
run_of counted guard last find_end steps = record {
  text = counted.text;
  last = last;
  find_end = find_end;
  shut = shut_kinds (length counted.text) guard steps;
  passed = counted.passed;
  steps = steps;
}

-- They are those of a run: the guard is true wherever a step may come, and its number of a kind
-- that is not shut stops no such step.
pub record AreRunFields (counted : CountedBytes) (guard : HtmlScanGuard) (last find_end steps : ℕ) : Type 0 where
  pub true_guard : (q : ℕ) → last < q → find_end ≤ q → IsTrueGuard counted.text guard q
  pub low_comment : guard.comment ≢ length counted.text → guard.comment ≤ find_end
  pub low_cdata : guard.cdata ≢ length counted.text → guard.cdata ≡ 0
  pub low_declaration : guard.declaration ≢ length counted.text → guard.declaration ≡ 0
  pub low_processing : guard.processing ≢ length counted.text → guard.processing ≡ 0
  pub new_guard : steps ≡ 0
      → (guard.comment ≡ 0) × (guard.cdata ≡ 0) × (guard.declaration ≡ 0) × (guard.processing ≡ 0)
  pub steps_at_most_last : steps ≤ last
  pub last_in_text : last ≤ length counted.text
  pub find_end_in_text : find_end ≤ length counted.text
  pub budget : IsWithinBudget (run_of counted guard last find_end steps)

-- They are those of a run over a text in memory.
pub record AreFieldsInMemory (counted : CountedBytes) (guard : HtmlScanGuard) (last find_end steps : ℕ) : Type 0 where
  pub fits_usize : length counted.text < 2 ^ 64
  pub fields : AreRunFields counted guard last find_end steps
