-- With the tags of the pieces that are left, the tags are those of all.
use Rattle.std.proofs.Common.{List, ◌++◌, ◌≡◌, ◌≤◌, length, map}
use Rattle.std.specs.List.{filter_map}
use Rattle.html_attributes.specs.StartTags.{ArePieces, Piece, seen_tag}
use Rattle.html_attributes.proofs.tags.start_tags.Given as goal

abbrev pub invariant-loop-rest : goal.invariant-loop-rest
invariant-loop-rest l = record {
  within : length l.rest ≤ length l.html;
  all : (later : List Piece) → ArePieces (length l.html) l.rest later
      → (pieces : List Piece) × ArePieces (length l.html) l.html pieces
      × (map seen_tag l.tags.items ++ filter_map (λ piece. piece.tag) later ≡ filter_map (λ piece. piece.tag) pieces);
}

abbrev pub decreases-loop-rest : goal.decreases-loop-rest
decreases-loop-rest l = length l.rest
