-- Delimiter runs that begin at an offset of bytes. (CommonMark 0.31.2, section 6.2, emphasis and strong emphasis)
use Rattle.std.specs.Prelude.{ℕ, List, false, ◌≡◌, ◌⊎◌, ◌<◌, ◌==◌, drop}
use Rattle.std.specs.List.{prefix_len}
use Rattle.std.specs.Str.{IsUtf8}
use Rattle.markdown_inlines.specs.DelimiterRuns.{IsDelimiterRun}
use Rattle.markdown_inlines.specs.declared.delimiter_runs.DelimiterRun.{DelimiterRun as Run}
use Rattle.markdown_scanners_c.specs.Status.{ok, nothing, not_utf8}
use Rattle.markdown_scanners_c.specs.declared.delimiter_runs.DelimiterRun.{DelimiterRun}

-- a status, and no run
abbrev pub IsNoRun : ℕ → DelimiterRun → Type 0
IsNoRun status returned =
    (returned.status ≡ status) × (returned.byte ≡ 0) × (returned.can_open ≡ false) × (returned.can_close ≡ false) × (returned.count ≡ 0)

-- the run that is returned
abbrev pub run_returned : DelimiterRun → Run
run_returned returned = record { byte = returned.byte; count = returned.count; can_open = returned.can_open; can_close = returned.can_close }

-- No run begins at the offset; or one does, beside which the bytes are no text; or one does, which is the longest of its byte
-- there, and of a text it is returned too whether it can open and close emphasis.
unfoldable pub IsReturnedRun : List ℕ → ℕ → DelimiterRun → Type 0
IsReturnedRun bytes offset returned =
    (IsNoRun nothing returned × ((run : Run) → ¬ IsDelimiterRun bytes offset run))
    ⊎ (IsNoRun not_utf8 returned × ¬ IsUtf8 bytes)
    ⊎ ((returned.status ≡ ok) × (0 < returned.count) × (returned.count ≡ prefix_len (λ b. b == returned.byte) (drop offset bytes))
    × (IsUtf8 bytes → IsDelimiterRun bytes offset (run_returned returned)))
