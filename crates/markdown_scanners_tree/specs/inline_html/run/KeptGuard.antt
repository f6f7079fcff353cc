-- Scans of raw HTML at rising offsets, under one guard that a caller keeps from scan to scan.
-- (CommonMark 0.31.2, section 6.6, raw HTML)
use Rattle.std.specs.Prelude.{ℕ, ◌+◌, ◌*◌, ◌≡◌, ◌≢◌, ◌≤◌, List, [], ◌∷◌, ◌++◌, length, None}
use Rattle.markdown_scanners_tree.specs.declared.inline_html.HtmlScanGuard.{HtmlScanGuard}
use Rattle.markdown_scanners_tree.specs.inline_html.Guard.{is_stopped, guard_after_scan, IsTrueGuard}
use Rattle.markdown_scanners_tree.specs.inline_html.InlineHtml.{opening_at, opener_before, cost}
use Rattle.markdown_scanners_tree.specs.inline_html.run.Run.{new_run, run_stop}

-- the guard to begin a text with
abbrev pub first_guard : HtmlScanGuard
first_guard = record { comment = 0; cdata = 0; declaration = 0; processing = 0 }

-- the offsets rise, each is just after an opener, and none is inside what a scan at an earlier one finds
abbrev pub AreScanPlaces : List ℕ → List ℕ → Type 0
AreScanPlaces text offsets = run_stop (new_run text) 0 offsets ≡ None

-- the guard that scans at the offsets leave, one after another
abbrev pub guard_after_scans : List ℕ → HtmlScanGuard → List ℕ → HtmlScanGuard
guard_after_scans text guard [] = guard
guard_after_scans text guard (p ∷ offsets) = guard_after_scans text (guard_after_scan opening_at text guard p) offsets

-- the bytes that a scan at an offset passes over
abbrev pub bytes_scanned : List ℕ → HtmlScanGuard → ℕ → ℕ
bytes_scanned text guard p = cost text (is_stopped guard p) (opening_at text p) p

-- the bytes that they pass over together
abbrev pub all_bytes_scanned : List ℕ → HtmlScanGuard → List ℕ → ℕ
all_bytes_scanned text guard [] = 0
all_bytes_scanned text guard (p ∷ offsets) =
    bytes_scanned text guard p + all_bytes_scanned text (guard_after_scan opening_at text guard p) offsets

-- A scan at p after scans at the earlier offsets: it misses nothing, leaves the guard that scans at all of them leave, and all
-- pass over at most four bytes for each byte of the text, and eight for each scan.
pub record IsNextScan (text earlier : List ℕ) (p : ℕ) : Type 0 where
  pub opened : opener_before text p ≢ None
  pub true_guard : IsTrueGuard text (guard_after_scans text first_guard earlier) p
  pub guards : guard_after_scans text first_guard (earlier ++ p ∷ [])
      ≡ guard_after_scan opening_at text (guard_after_scans text first_guard earlier) p
  pub counts : all_bytes_scanned text first_guard (earlier ++ p ∷ [])
      ≡ all_bytes_scanned text first_guard earlier + bytes_scanned text (guard_after_scans text first_guard earlier) p
  pub budget : all_bytes_scanned text first_guard (earlier ++ p ∷ []) ≤ 4 * length text + 8 * (length earlier + 1)
