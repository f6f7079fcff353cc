-- With what is left, what is read means what the whole value does.
use Rattle.std.proofs.Common.{List, ◌++◌, ◌≡◌, length}
use Rattle.markdown_scanners_tree.specs.scanners.unescaping.Unescaping.{Piece, joined_meanings}
use Rattle.html_attributes.specs.Values.{AreMeanings}
use Rattle.html_attributes.proofs.values.meaning_of.Given as goal

abbrev pub invariant-loop-rest : goal.invariant-loop-rest
invariant-loop-rest g l =
    (later : List Piece) → AreMeanings (g.E.Entities.known l.entities) l.rest later
    → (pieces : List Piece) × AreMeanings (g.E.Entities.known l.entities) l.value pieces
    × (l.bytes.items ++ joined_meanings later ≡ joined_meanings pieces)

abbrev pub decreases-loop-rest : goal.decreases-loop-rest
decreases-loop-rest g l = length l.rest
