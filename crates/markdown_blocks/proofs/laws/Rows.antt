-- Lines of examples of CommonMark 0.31.2, in block quotes and list items.
use Rattle.std.proofs.Common.{refl, inl, inr, arith}
use Rattle.std.specs.Prelude.{codes}
use Rattle.markdown_scanners_tree.specs.Ascii.{full_stop, hyphen}
use Rattle.markdown_scanners_tree.specs.scanners.list_items.ListItem.{bullet, ordered}
use Rattle.markdown_blocks.specs.laws.Items.{Lead, IsLead, IsItemLine, IsIndentedLine, IsMarkerAlone}
use Rattle.markdown_blocks.specs.laws.Quotes.{IsQuoted}

-- examples 228, 229 and 230
quoted : IsQuoted (codes "# Foo") (codes "> # Foo")
quoted = record { indent = 0; gap = 1; few = omega arith; marked = inl refl; parts = refl; tabs = inl refl }

quoted_at_once : IsQuoted (codes "# Foo") (codes "># Foo")
quoted_at_once = record { indent = 0; gap = 0; few = omega arith; marked = inr (refl, refl); parts = refl; tabs = inl refl }

quoted_after_spaces : IsQuoted (codes "bar") (codes "   > bar")
quoted_after_spaces = record { indent = 3; gap = 1; few = omega arith; marked = inl refl; parts = refl; tabs = inl refl }

-- a tab, after a marker of four columns
quoted_tab : IsQuoted (codes "\tfoo") (codes "  > \tfoo")
quoted_tab = record { indent = 2; gap = 1; few = omega arith; marked = inl refl; parts = refl; tabs = inr refl }

-- example 254
one : Lead
one = record { indent = 0; marker = codes "1."; delimiter = full_stop; start = 1; gap = 2 }

one_is : IsLead one
unfolding one
one_is = record {
  few = omega arith;
  is_marker = ordered (codes "1") full_stop (omega arith) (omega arith) refl refl;
  some = omega arith;
  most = omega arith;
}

item_line : IsItemLine one (codes "A paragraph") (codes "1.  A paragraph")
unfolding one
item_line = record { parts = refl; text = refl; after = inl refl; no_break = refl; tabs = inl refl }

indented_line : IsIndentedLine 4 (codes "    indented code") (codes "        indented code")
indented_line = inl (refl, refl, inl refl)

blank_line : IsIndentedLine 4 (codes "\n") (codes "\n")
blank_line = inr (refl, refl)

-- example 273, rule 2
code : Lead
code = record { indent = 0; marker = codes "1."; delimiter = full_stop; start = 1; gap = 1 }

code_line : IsItemLine code (codes "    indented code") (codes "1.     indented code")
unfolding code
code_line = record { parts = refl; text = refl; after = inr (refl, refl); no_break = refl; tabs = inl refl }

-- example 278, rule 3
dash : Lead
dash = record { indent = 0; marker = codes "-"; delimiter = hyphen; start = 0; gap = 1 }

dash_is : IsLead dash
unfolding dash
dash_is = record { few = omega arith; is_marker = bullet hyphen refl; some = omega arith; most = omega arith }

marker_alone : IsMarkerAlone dash (codes "\n") (codes "-\n")
unfolding dash
marker_alone = record { parts = refl; empty = refl; no_break = refl }
