-- What the program writes to standard error, beside the lines of faults.
use Rattle.std.specs.Prelude.{ℕ, List, codes}
use Rattle.cmark_scan.specs.printing.Outcome.{line_of}

-- where the words make no request
abbrev pub usage_line : List ℕ
usage_line = line_of (codes "usage: cmark_scan line CALL.. | html | label | unescape")

-- where the input of `label` or `unescape` isn't UTF-8
abbrev pub not_text_line : List ℕ
not_text_line = line_of (codes "not UTF-8")
