-- Delimiter rows, and other lines, as GitHub Flavored Markdown 0.29, section 4.10, and cmark-gfm have them.
use Rattle.std.proofs.Common.{true, false, [], ◌∷◌, ◌≡◌, refl}
use Rattle.std.specs.Prelude.{codes}
use Rattle.markdown_values.specs.declared.values.Alignment.TheVariants as Aligned
use Rattle.markdown_blocks.specs.delimiter_rows.DelimiterRows.{alignments_in, is_delimiter_row}

-- the four alignments, with tabs and spaces around their cells
four : alignments_in (codes "| --- |:-\t| -: |\t:---:|\t\n") ≡ Aligned.None ∷ Aligned.Left ∷ Aligned.Right ∷ Aligned.Center ∷ []
four = refl

-- one column needs no pipe where a colon stands beside its hyphens
one : is_delimiter_row (codes ":-") ≡ true
one = refl

-- a colon between hyphens, two before them, hyphens parted by a space, a cell without hyphens, and no cell
between : is_delimiter_row (codes "-:-|-") ≡ false
between = refl

doubled : is_delimiter_row (codes "|::-|-|") ≡ false
doubled = refl

parted : is_delimiter_row (codes "|- -|-|") ≡ false
parted = refl

bare : is_delimiter_row (codes "-|:") ≡ false
bare = refl

empty : is_delimiter_row (codes "|-||") ≡ false
empty = refl

none : is_delimiter_row (codes "|\n") ≡ false
none = refl

-- a form feed is no space
feed : is_delimiter_row (45 ∷ 124 ∷ 45 ∷ 12 ∷ []) ≡ false
feed = refl
