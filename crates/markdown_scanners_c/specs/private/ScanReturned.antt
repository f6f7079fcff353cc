-- A scan of inline HTML under a guard, as C gets it of it.
use Rattle.std.specs.Prelude.{ℕ, Option, None, Some, Result, Ok, Err}
use Rattle.markdown_scanners_tree.specs.declared.inline_html.HtmlStop.{HtmlStop}
use Rattle.markdown_scanners_c.specs.Status.{ok, nothing, no_opener}
use Rattle.markdown_scanners_c.specs.declared.html.End.{End}

-- the answer of a scan that passed over so many bytes
abbrev pub scan_returned : Result (Option ℕ) HtmlStop → ℕ → End
scan_returned (Ok (Some end)) passed = record { status = ok; end = end; passed = passed }
scan_returned (Ok None) passed = record { status = nothing; end = 0; passed = passed }
scan_returned (Err why) passed = record { status = no_opener; end = 0; passed = passed }
