-- Worked examples: how many bytes are passed over in search of the ends of code spans and of raw HTML.
use Rattle.std.proofs.Common.{◌≡◌, [], ◌∷◌, refl}
use Rattle.std.specs.Prelude.{codes}
use Rattle.markdown_scanners_tree.specs.inline_html.InlineHtml.{declared_at, opening_at, least_offset, cost}
use Rattle.markdown_inlines.specs.Searches.{bytes_searched}
use Rattle.markdown_inlines.specs.declared.pieces.PieceKind.TheVariants as K

unfoldable computing : Unit {0}
unfolding declared_at opening_at least_offset cost
computing = tt

-- strings that nothing closes
strings_alone : bytes_searched (codes "`a``b```c") (record { kind = K.Text; start = 0; end = 9 } ∷ []) ≡ 15
unfolding computing
strings_alone = refl

-- text without backticks, of which none is read for its last ones
no_backticks : bytes_searched (codes "a *b*") (record { kind = K.Text; start = 0; end = 5 } ∷ []) ≡ 0
unfolding computing
no_backticks = refl

-- a code span, and a string that is read to the end of the text
one_span : bytes_searched (codes "`a` ``b") (record { kind = K.Code 1; start = 0; end = 3 } ∷ record { kind = K.Text; start = 3; end = 7 } ∷ []) ≡ 8
unfolding computing
one_span = refl

-- processing instructions, of which the first is searched for in vain
instructions : bytes_searched (codes "<?a<?a<?a") (record { kind = K.Text; start = 0; end = 9 } ∷ []) ≡ 7
unfolding computing
instructions = refl

-- two comments, of which the second isn't closed
comments : bytes_searched (codes "<!--a--><!--b") (record { kind = K.Html; start = 0; end = 8 } ∷ record { kind = K.Text; start = 8; end = 13 } ∷ []) ≡ 13
unfolding computing
comments = refl
