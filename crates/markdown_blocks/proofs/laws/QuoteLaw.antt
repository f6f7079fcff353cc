-- The rules of block quotes. (CommonMark 0.31.2, section 5.1)
use Rattle.std.proofs.Common.{ℕ, ◌≡◌, List, [], ◌∷◌, ◌++◌, refl, sym, ◌∙◌, subst, inl, append_assoc}
use Rattle.std.specs.List.{AllZip, concat}
use Rattle.markdown_scanners_tree.specs.Ascii.{greater_than_sign}
use Rattle.markdown_scanners_tree.specs.scanners.TextLines.{lines_of}
use Rattle.markdown_blocks.specs.containers.Containers.{without_terms}
use Rattle.markdown_values.specs.declared.values.extensions.Extensions.{Extensions}
use Rattle.markdown_blocks.specs.declared.containers.Container.TheVariants.{Quote}
use Rattle.markdown_blocks.specs.blocks.Pages.{Piece, lines_in, root, AreBlocks, IsPage}
use Rattle.markdown_blocks.specs.laws.Quotes.{IsQuoted, IsBare, AreInQuote}
use Rattle.markdown_blocks.proofs.blocks.OneText.{one_page}
use Rattle.markdown_blocks.proofs.laws.HeldLaw.{held_blocks, held_lines}
use Rattle.markdown_blocks.proofs.laws.MarkedLines.{IsMarked, marked_lines, none_spaces, none_of_spaces}
use Rattle.markdown_blocks.proofs.laws.Places.{spaces}
use Rattle.markdown_blocks.proofs.laws.QuotePlaces.{offset_in, line_alike, begun_there, kept_there, state_there, bare_outside}

quoted_blocks : (asked : Extensions) (pieces others : List Piece) → AreInQuote asked pieces others → AreBlocks (root asked) pieces []
    → AreBlocks (root asked) others []
quoted_blocks asked = held_blocks asked Quote IsQuoted IsQuoted (IsBare asked) refl
    (λ line quoted q. (offset_in line quoted q, begun_there line quoted q (without_terms asked), line_alike line quoted q))
    (λ line quoted q outer. (kept_there line quoted q outer, state_there line quoted q outer))
    (λ line bare b outer. (bare_outside asked line bare b outer, b.goes_on))

-- the lines are those of the text that they make
quoted_marked : (line quoted : List ℕ) → IsQuoted line quoted → IsMarked line quoted
quoted_marked line quoted q =
    inl (
    record {
      front = spaces q.indent ++ greater_than_sign ∷ spaces q.gap;
      parts = q.parts ∙ sym (append_assoc (spaces q.indent) (greater_than_sign ∷ spaces q.gap) line);
      plain = none_spaces q.indent (greater_than_sign ∷ spaces q.gap) (none_of_spaces q.gap);
    }
    )

bare_marked : (asked : Extensions) (line bare : List ℕ) → IsBare asked line bare → IsMarked line bare
bare_marked asked line bare b = inl (record { front = spaces b.indent; parts = b.parts; plain = none_of_spaces b.indent })

quoted_lines : (asked : Extensions) (text : List ℕ) (pieces others : List Piece) → lines_in pieces ≡ lines_of text
    → AreInQuote asked pieces others
    → lines_of (concat (lines_in others)) ≡ lines_in others
quoted_lines asked text pieces others joined z =
    marked_lines text (lines_in others) (subst (λ ls. AllZip IsMarked ls (lines_in others)) joined
    (held_lines Quote IsQuoted IsQuoted (IsBare asked) IsMarked quoted_marked quoted_marked (bare_marked asked) pieces others z))

-- Rules 1 and 2: where a text has these blocks, its lines with a marker before each, or lazily without, make a text that is a block
-- quote of these blocks, and nothing else.
pub block_quote : (asked : Extensions) (text : List ℕ) (pieces others : List Piece) → IsPage asked text pieces → AreInQuote asked pieces others
    → IsPage asked (concat (lines_in others)) others
block_quote asked text pieces others page z =
    record { joined = sym (quoted_lines asked text pieces others page.joined z); each = quoted_blocks asked pieces others z page.each }

pub one_block_quote : (asked : Extensions) (text : List ℕ) (pieces others found : List Piece) → IsPage asked text pieces → AreInQuote asked pieces others
    → IsPage asked (concat (lines_in others)) found → found ≡ others
one_block_quote asked text pieces others found page z is =
    one_page (root asked) found others (is.joined ∙ quoted_lines asked text pieces others page.joined z) is.each (quoted_blocks asked pieces others z page.each)
