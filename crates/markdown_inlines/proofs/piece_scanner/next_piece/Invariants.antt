use Rattle.std.proofs.Common.{length, ◌-◌, ◌≡◌, ◌<◌, ◌≤◌, get_or}
use Rattle.markdown_inlines.specs.Pieces.{HasOnlyText}
use Rattle.markdown_inlines.specs.Searches.{IsSearchedTo, text_searched}
use Rattle.markdown_inlines.proofs.piece_scanner.next_piece.Given as goal

-- Only text is passed, no backtick string is cut, and what is searched is what that text has.
abbrev pub invariant-loop-offset : goal.invariant-loop-offset
invariant-loop-offset l =
    (l.from ≤ l.offset) × (l.offset ≤ length l.text) × HasOnlyText l.extensions l.text l.from l.offset
    × (get_or l.text l.offset 0 ≡ 96 → l.from < l.offset → get_or l.text (l.offset - 1) 0 ≡ 96 → ⊥)
    × (l.searches.html.text ≡ l.text) × IsSearchedTo l.offset l.searches
    × (l.searches ≡ text_searched l.text l.from (l.offset - l.from) l.initial.searches)

abbrev pub decreases-loop-offset : goal.decreases-loop-offset
decreases-loop-offset l = length l.text - l.offset
