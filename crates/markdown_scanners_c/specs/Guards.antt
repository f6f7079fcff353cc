-- Scans of inline HTML under a guard that C keeps from call to call. (CommonMark 0.31.2, section 6.6, raw HTML)
use Rattle.std.specs.Prelude.{ℕ, List, [], ◌∷◌, ◌++◌, length, ◌+◌, ◌*◌, ◌≡◌, ◌≢◌, ◌⊎◌, ◌<◌, ◌≤◌, Option, None, Some}
use Rattle.markdown_scanners_tree.specs.declared.inline_html.HtmlScanGuard.{HtmlScanGuard}
use Rattle.markdown_scanners_tree.specs.inline_html.Guard.{answer_of_scan, guard_after_scan, IsTrueGuard}
use Rattle.markdown_scanners_tree.specs.inline_html.InlineHtml.{opener_before, opening_at}
use Rattle.markdown_scanners_tree.specs.inline_html.run.KeptGuard.{first_guard, guard_after_scans, bytes_scanned, all_bytes_scanned}
use Rattle.markdown_scanners_c.specs.Finds.{IsFindEnd}
use Rattle.markdown_scanners_c.specs.Status.{ok, nothing, no_opener}
use Rattle.markdown_scanners_c.specs.declared.html.Guard.{Guard}
use Rattle.markdown_scanners_c.specs.declared.html.End.{End}

-- the guard that C's four numbers stand for
abbrev pub scan_guard : Guard → HtmlScanGuard
scan_guard guard = record {
  comment = guard.comment;
  cdata = guard.cdata;
  declaration = guard.declaration;
  processing = guard.processing;
}

-- the guard to begin a text with
abbrev pub new_guard : Guard
new_guard = record { comment = 0; cdata = 0; declaration = 0; processing = 0 }

-- an answer as C gets it
abbrev pub IsAnswerReturned : Option ℕ → End → Type 0
IsAnswerReturned None found = (found.status ≡ nothing) × (found.end ≡ 0)
IsAnswerReturned (Some end) found = (found.status ≡ ok) × (found.end ≡ end)

-- what a scan at the offset, just after an opener, answers under the guard, leaves as the guard, and passes over
pub record IsScanUnder (bytes : List ℕ) (offset : ℕ) (old new : HtmlScanGuard) (found : End) : Type 0 where
  pub answers : IsAnswerReturned (answer_of_scan opening_at bytes old offset) found
  pub guards : new ≡ guard_after_scan opening_at bytes old offset
  pub counts : found.passed ≡ bytes_scanned bytes old offset

-- No opener ends at the offset, and the guard is as it was; or one does, and the offset is scanned under the guard.
abbrev pub IsGuardedEnd : List ℕ → ℕ → Guard → Guard → End → Type 0
IsGuardedEnd bytes offset old new found =
    ((opener_before bytes offset ≡ None) × (new ≡ old)
    × (found.status ≡ no_opener) × (found.end ≡ 0) × (found.passed ≡ 0))
    ⊎ ((opener_before bytes offset ≢ None)
    × IsScanUnder bytes offset (scan_guard old) (scan_guard new) found)

-- The find is returned, and the guard is true at each later offset that is not below its end.
pub record IsTrueEnd (bytes : List ℕ) (offset : ℕ) (new : Guard) (found : End) : Type 0 where
  pub finds : IsFindEnd bytes offset found
  pub stays_true : (later : ℕ) → offset < later → found.end ≤ later → IsTrueGuard bytes (scan_guard new) later

-- A scan at the offset, where scans at the earlier offsets left the guard: the find is returned, the guard is as scans at all of
-- them leave it, and they pass over at most four bytes for each byte of the text, and eight for each scan.
pub record IsScanInTurn (bytes earlier : List ℕ) (offset : ℕ) (new : Guard) (found : End) : Type 0 where
  pub finds : IsFindEnd bytes offset found
  pub guards : scan_guard new ≡ guard_after_scans bytes first_guard (earlier ++ offset ∷ [])
  pub counts : all_bytes_scanned bytes first_guard earlier + found.passed
      ≡ all_bytes_scanned bytes first_guard (earlier ++ offset ∷ [])
  pub budget : all_bytes_scanned bytes first_guard earlier + found.passed
      ≤ 4 * length bytes + 8 * (length earlier + 1)
