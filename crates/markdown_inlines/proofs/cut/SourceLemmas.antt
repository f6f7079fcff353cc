-- Pieces are added to those before them, and join with these.
use Rattle.std.proofs.Common.{ℕ, Bool, true, false, List, [], ◌∷◌, ◌++◌, ◌≡◌, ◌≤◌, ◌+◌, ◌-◌, ◌∙◌, if◌then◌else◌, nat_lt, slice_range}
use Rattle.std.proofs.Common.{arith, refl, sym, ap, subst, take, drop}
use Rattle.std.specs.Str.{IsCharBoundary}
use Rattle.std.proofs.lemmas.Bool.{ltb-true, ltb-false}
use Rattle.std.proofs.lemmas.Grind.{flat_map-append}
use Rattle.std.proofs.lemmas.List.{append-nil, drop-take, take-append-drop, take-take}
use Rattle.std.proofs.lemmas.List.Elements.{All-append, All-cons}
use Rattle.markdown_inlines.specs.Inlines.{text_between}
use Rattle.markdown_inlines.specs.Sources.{AreSources, IsSource, source_of}
use Rattle.markdown_inlines.specs.declared.pieces.Piece.{Piece}
use Rattle.markdown_inlines.specs.declared.pieces.PieceKind.TheVariants as K

-- what stands before an offset, and from there up to a later one
joined_to : (text : List ℕ) (from to : ℕ) → from ≤ to → take from text ++ slice_range text from to ≡ take to text
joined_to text from to later =
    let to_is : from + (to - from) ≡ to = omega (arith, later) in
    let front = sym (take-take from to text later) in
    let rest = sym (drop-take from (to - from) text) ∙ ap (λ n. drop from (take n text)) to_is in
    ap (λ (l : List ℕ). l ++ slice_range text from to) front ∙ (ap (λ (l : List ℕ). take from (take to text) ++ l) rest
    ∙ take-append-drop from (take to text))

pub source_added : (text : List ℕ) (pieces : List Piece) (piece : Piece) → AreSources text pieces piece.start → IsSource text piece
    → AreSources text (pieces ++ piece ∷ []) piece.end
source_added text pieces piece are is = record {
  each = All-append (IsSource text) pieces (piece ∷ []) are.each
      (All-cons (IsSource text) piece [] is (λ k d inside. absurd (omega (arith, inside))));
  joined = flat_map-append (source_of text) pieces (piece ∷ [])
      ∙ (ap (λ (l : List ℕ). l ++ (source_of text piece ++ [])) are.joined
      ∙ (ap (λ (l : List ℕ). take piece.start text ++ l) (append-nil (source_of text piece))
      ∙ joined_to text piece.start piece.end (omega (arith, is.some))));
}

pub text_added : (text : List ℕ) (pieces : List Piece) (from to : ℕ) → AreSources text pieces from → from ≤ to
    → IsCharBoundary text from → IsCharBoundary text to → AreSources text (pieces ++ text_between from to) to
text_added text pieces from to are later begins ends = by (nat_lt from to) refl
  where
    by : (test : Bool) → nat_lt from to ≡ test
        → AreSources text (pieces ++ (if test then record { kind = K.Text; start = from; end = to } ∷ [] else [])) to
    by true some =
        source_added text pieces (record { kind = K.Text; start = from; end = to }) are
        (record { some = ltb-true from to some; begins = begins; ends = ends })
    by false none =
        let same : from ≡ to = omega (arith, ltb-false from to none, later) in
        subst (λ (l : List Piece). AreSources text l to) (sym (append-nil pieces)) (subst (AreSources text pieces) same are)
