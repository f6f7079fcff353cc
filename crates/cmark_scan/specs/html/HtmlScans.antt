-- The scans of raw HTML that the program makes in a text, and what it prints.
-- (CommonMark 0.31.2, section 6.6, raw HTML)
use Rattle.std.specs.Prelude.{ℕ, zero, suc, ◌+◌, ◌*◌, Bool, ◌&&◌, nat_le, is_some, is_none, List, [], ◌∷◌, ◌++◌, length, map, codes, Option, unwrap_or, if◌then◌else◌}
use Rattle.std.specs.List.{flat_map}
use Rattle.std.specs.Fmt.{decimal}
use Rattle.markdown_scanners_tree.specs.inline_html.InlineHtml.{opener_before, find_at}
use Rattle.markdown_scanners_tree.specs.inline_html.run.Passed.{bytes_passed}
use Rattle.markdown_scanners_tree.specs.inline_html.run.Run.{Run, offset_refusal}
use Rattle.cmark_scan.specs.printing.Outcome.{Outcome, line_of, number_text}

-- a scan is made just after an opener, unless that offset is below the end of the last find
abbrev pub is_scanned : List ℕ → ℕ → ℕ → Bool
is_scanned text find_end p = is_some (opener_before text p) && nat_le find_end p

-- the end of the last find after offset p
abbrev pub end_after : List ℕ → ℕ → ℕ → ℕ
end_after text find_end p =
    if is_scanned text find_end p then unwrap_or (find_at text p) find_end else find_end

-- a scan before the later ones, where it is made
abbrev pub before_later : Bool → ℕ × Option ℕ → List (ℕ × Option ℕ) → List (ℕ × Option ℕ)
before_later made scan later = if made then scan ∷ later else later

-- the scans at the n offsets from p on, each an offset with the find there, where the last find before
-- p ends at find_end
unfoldable pub scans_from : List ℕ → ℕ → ℕ → ℕ → List (ℕ × Option ℕ)
scans_from text find_end p zero = []
scans_from text find_end p (suc n) =
    before_later (is_scanned text find_end p) (p, find_at text p)
    (scans_from text (end_after text find_end p) (p + 1) n)

-- the scans at all offsets of the text, its end among them
abbrev pub scans_of : List ℕ → List (ℕ × Option ℕ)
scans_of text = scans_from text 0 0 (length text + 1)

-- the offsets of scans
abbrev pub offsets_of : List (ℕ × Option ℕ) → List ℕ
offsets_of scans = map (λ scan. scan.0) scans

-- the scan that a run makes at an offset, if the offset is not refused
abbrev pub scans_at : Run → ℕ → List (ℕ × Option ℕ)
scans_at run offset = before_later (is_none (offset_refusal run offset)) (offset, find_at run.text offset) []

-- the offset of a scan, and the end of the find there
abbrev pub scan_text : ℕ × Option ℕ → List ℕ
scan_text scan = line_of (decimal scan.0 ++ codes " " ++ number_text scan.1)

-- the bytes that scans may pass over: four for each byte of the text and eight for each scan
abbrev pub allowance : List ℕ → List (ℕ × Option ℕ) → ℕ
allowance text scans = 4 * length text + 8 * length scans

-- the bytes that scans pass over, of those that they may
abbrev pub passed_text : List ℕ → List (ℕ × Option ℕ) → List ℕ
passed_text text scans =
    codes "passed " ++ decimal (bytes_passed text (offsets_of scans))
    ++ codes " of " ++ decimal (allowance text scans)

-- scans: a line for each, and the bytes passed over
abbrev pub html_text : List ℕ → List (ℕ × Option ℕ) → List ℕ
html_text text scans = flat_map scan_text scans ++ line_of (passed_text text scans)

-- all scans of a text
abbrev pub printed_scans : List ℕ → Outcome
printed_scans text = record { printed = html_text text (scans_of text); status = 0 }
