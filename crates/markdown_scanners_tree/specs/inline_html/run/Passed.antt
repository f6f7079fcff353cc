-- The bytes that scans of raw HTML pass over, as a function of the text and the accepted offsets.
-- (CommonMark 0.31.2, section 6.6, raw HTML)
use Rattle.std.specs.Prelude.{ℕ, ◌+◌, Bool, true, false, ◌&&◌, is_none, List, [], ◌∷◌}
use Rattle.std.specs.List.{list_any}
use Rattle.markdown_scanners_tree.specs.inline_html.InlineHtml.{Kind, Comment, Cdata, Declaration, Processing, Opening, Begins, Hyphen, Bracket, Nothing, opening_at, find_at, cost}

-- two kinds are the same
abbrev pub is_of : Kind → Kind → Bool
is_of Comment Comment = true
is_of Cdata Cdata = true
is_of Declaration Declaration = true
is_of Processing Processing = true
is_of kind other = false

-- a piece of the kind begins
abbrev pub begins_kind : Kind → Opening → Bool
begins_kind kind (Begins other) = is_of kind other
begins_kind kind Hyphen = false
begins_kind kind Bracket = false
begins_kind kind Nothing = false

-- a piece of the kind begins at the offset, and has no closer
abbrev pub is_unclosed : List ℕ → Kind → ℕ → Bool
is_unclosed text kind p = begins_kind kind (opening_at text p) && is_none (find_at text p)

-- a kind is shut where a piece of it that began at an earlier offset has no closer
abbrev pub is_shut_after : List ℕ → List ℕ → Kind → Bool
is_shut_after text earlier kind = list_any (is_unclosed text kind) earlier

-- the sum over the offsets, each with those before it
abbrev pub sum_after : List ℕ → List ℕ → List ℕ → ℕ
sum_after text earlier [] = 0
sum_after text earlier (p ∷ offsets) =
    cost text (is_shut_after text earlier) (opening_at text p) p + sum_after text (p ∷ earlier) offsets

-- the bytes that scans at the offsets pass over
abbrev pub bytes_passed : List ℕ → List ℕ → ℕ
bytes_passed text offsets = sum_after text [] offsets
