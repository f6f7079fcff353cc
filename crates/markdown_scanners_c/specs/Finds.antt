-- What C learns of a scan of inline HTML. (CommonMark 0.31.2, section 6.6, raw HTML)
use Rattle.std.specs.Prelude.{ℕ, List, ◌≡◌, ◌≢◌, ◌⊎◌, None, Some}
use Rattle.markdown_scanners_tree.specs.inline_html.InlineHtml.{find_at, opener_before}
use Rattle.markdown_scanners_c.specs.Status.{ok, nothing, no_opener}
use Rattle.markdown_scanners_c.specs.declared.html.End.{End}

-- No opener ends at the offset; or one does, and it begins nothing; or this is where what it begins ends.
abbrev pub IsFindEnd : List ℕ → ℕ → End → Type 0
IsFindEnd bytes offset found =
    ((found.status ≡ no_opener) × (found.end ≡ 0) × (opener_before bytes offset ≡ None))
    ⊎ ((found.status ≡ nothing) × (found.end ≡ 0)
    × (opener_before bytes offset ≢ None) × (find_at bytes offset ≡ None))
    ⊎ ((found.status ≡ ok) × (find_at bytes offset ≡ Some found.end))
