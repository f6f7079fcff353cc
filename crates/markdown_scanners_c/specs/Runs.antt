-- Runs of scans of inline HTML, and what C learns of them. (CommonMark 0.31.2, section 6.6, raw HTML)
use Rattle.std.specs.Prelude.{ℕ, List, ◌≡◌, ◌≤◌, ◌<◌, ◌++◌, ◌⊎◌, Option, None, Some, drop, length, map}
use Rattle.markdown_scanners_tree.specs.declared.inline_html.HtmlStop.{HtmlStop}
use Rattle.markdown_scanners_tree.specs.declared.inline_html.HtmlStop.TheVariants.{NoOpener, NotRising, InsideFind}
use Rattle.markdown_scanners_tree.specs.inline_html.run.Run.{new_run, run_answers, run_stop}
use Rattle.markdown_scanners_c.specs.Answers.{none}
use Rattle.markdown_scanners_c.specs.Status.{ok, too_short, no_memory, no_opener, not_rising, inside_find}
use Rattle.markdown_scanners_c.specs.declared.runs.HtmlEnds.{HtmlEnds}

-- the end of a find, or `MDS_NONE`
abbrev pub end_number : Option ℕ → ℕ
end_number None = none
end_number (Some end) = end

-- why a run stops before its last offset, if it does
abbrev pub stop_status : Option (ℕ × HtmlStop) → ℕ
stop_status None = ok
stop_status (Some (index, NoOpener)) = no_opener
stop_status (Some (index, NotRising)) = not_rising
stop_status (Some (index, InsideFind)) = inside_find

-- the ends that a run over these offsets finds
abbrev pub run_ends : List ℕ → List ℕ → List ℕ
run_ends bytes offsets = map end_number (run_answers (new_run bytes) offsets)

-- The numbers stand at the front of the buffer, whose others are as they were, and this is the status; or they are more
-- than the buffer holds, in which nothing has changed.
unfoldable pub AreNumbersWritten : List ℕ → List ℕ → List ℕ → ℕ → ℕ → Type 0
AreNumbersWritten numbers old new done status =
    ((status ≡ done) × (length numbers ≤ length old) × (new ≡ numbers ++ drop (length numbers) old))
    ⊎ ((status ≡ too_short) × (length old < length numbers) × (new ≡ old))

-- The ends of a run are written and counted, with the reason of its stop; or memory for some was refused.
abbrev pub IsHtmlRun : List ℕ → List ℕ → List ℕ → List ℕ → HtmlEnds → Type 0
IsHtmlRun bytes offsets old new run =
    ((run.status ≡ no_memory) × (run.count ≡ 0) × (new ≡ old)
    × (0 < length (run_ends bytes offsets)))
    ⊎ ((run.count ≡ length (run_ends bytes offsets))
    × AreNumbersWritten (run_ends bytes offsets) old new
    (stop_status (run_stop (new_run bytes) 0 offsets)) run.status)
