-- The pieces of a text, each with the number of openers before it, and those that spans begin and end with.
use Rattle.std.proofs.Common.{ℕ, Bool, List, [], ◌∷◌, ◌≡◌, ◌<◌, ◌≤◌, ◌+◌, ◌∙◌, inl, inr, arith, sym, ap, subst, if◌then◌else◌}
use Rattle.markdown_inlines.specs.Output.{counted}
use Rattle.markdown_inlines.specs.declared.delimiter_runs.DelimiterRun.{DelimiterRun}
use Rattle.markdown_inlines.specs.declared.pieces.Piece.{Piece}
use Rattle.markdown_inlines.specs.declared.pieces.PieceKind.{PieceKind}
use Rattle.markdown_inlines.specs.declared.pieces.PieceKind.TheVariants as K
use Rattle.markdown_inlines.proofs.inlines.Spans.{IsIn, Span}

abbrev pub numbered : ℕ → List Piece → List (ℕ × Piece)
numbered number [] = []
numbered number (piece ∷ later) = (number, piece) ∷ numbered (counted piece.kind number) later

-- it ends after its start, or there if it is no right bracket
abbrev pub IsLong : Piece → Type 0
IsLong piece = (piece.start ≤ piece.end) × (piece.kind ≡ K.Closer → piece.start < piece.end)

-- each begins where the one before it ends, the first at an offset, and the last ends at another
abbrev pub Follow : ℕ → List Piece → ℕ → Type 0
Follow offset [] last = offset ≡ last
Follow offset (piece ∷ later) last = (piece.start ≡ offset) × IsLong piece × Follow piece.end later last

follow_least : (pieces : List Piece) (offset last : ℕ) → Follow offset pieces last → offset ≤ last
follow_least [] offset last follow = omega (arith, follow)
follow_least (piece ∷ later) offset last follow =
    omega (arith, follow_least later piece.end last follow.2, follow.0, follow.1.0)

pub ends_before : (pieces : List Piece) (offset last number : ℕ) (x : ℕ × Piece) → Follow offset pieces last → IsIn x (numbered number pieces)
    → x.1.end ≤ last
ends_before [] offset last number x follow is = absurd is
ends_before (piece ∷ later) offset last number x follow (inl here) =
    omega (arith, ap (λ (y : ℕ × Piece). y.1.end) here, follow_least later piece.end last follow.2)
ends_before (piece ∷ later) offset last number x follow (inr is) =
    ends_before later piece.end last (counted piece.kind number) x follow.2 is

pub follows : (pieces : List Piece) (offset last number : ℕ) (x : ℕ × Piece) → Follow offset pieces last → IsIn x (numbered number pieces)
    → (offset ≤ x.1.start) × (x.1.start ≤ x.1.end)
follows [] offset last number x follow is = absurd is
follows (piece ∷ later) offset last number x follow (inl here) =
    subst (λ (y : ℕ × Piece). (offset ≤ y.1.start) × (y.1.start ≤ y.1.end)) (sym here) (omega (arith, follow.0), follow.1.0)
follows (piece ∷ later) offset last number x follow (inr is) =
    let more = follows later piece.end last (counted piece.kind number) x follow.2 is in
    (omega (arith, more.0, follow.0, follow.1.0), more.1)

-- two that have a byte in common are one
pub one_there : (pieces : List Piece) (offset last number : ℕ) (x y : ℕ × Piece) → Follow offset pieces last → IsIn x (numbered number pieces)
    → IsIn y (numbered number pieces) → x.1.start < y.1.end → y.1.start < x.1.end → x ≡ y
one_there [] offset last number x y follow is is' less less' = absurd is
one_there (piece ∷ later) offset last number x y follow (inl here) (inl here') less less' = here ∙ sym here'
one_there (piece ∷ later) offset last number x y follow (inl here) (inr is') less less' =
    let more = follows later piece.end last (counted piece.kind number) y follow.2 is' in
    absurd (omega (arith, more.0, less', ap (λ (z : ℕ × Piece). z.1.end) here))
one_there (piece ∷ later) offset last number x y follow (inr is) (inl here') less less' =
    let more = follows later piece.end last (counted piece.kind number) x follow.2 is in
    absurd (omega (arith, more.0, less, ap (λ (z : ℕ × Piece). z.1.end) here'))
one_there (piece ∷ later) offset last number x y follow (inr is) (inr is') less less' =
    one_there later piece.end last (counted piece.kind number) x y follow.2 is is' less less'

least_counted : (kind : PieceKind) (number : ℕ) → number ≤ counted kind number
least_counted K.LinkOpener number = omega arith
least_counted K.ImageOpener number = omega arith
least_counted K.Text number = omega arith
least_counted K.Escape number = omega arith
least_counted K.HardBreak number = omega arith
least_counted K.SoftBreak number = omega arith
least_counted K.Reference number = omega arith
least_counted (K.Code backticks) number = omega arith
least_counted K.Uri number = omega arith
least_counted K.Email number = omega arith
least_counted K.Html number = omega arith
least_counted (K.Delimiters run) number = omega arith
least_counted K.Closer number = omega arith

least : (pieces : List Piece) (number : ℕ) (x : ℕ × Piece) → IsIn x (numbered number pieces) → number ≤ x.0
least [] number x is = absurd is
least (piece ∷ later) number x (inl here) = omega (arith, ap (λ (z : ℕ × Piece). z.0) here)
least (piece ∷ later) number x (inr is) =
    omega (arith, least later (counted piece.kind number) x is, least_counted piece.kind number)

-- two openers with one number are one
pub one_opener : (pieces : List Piece) (number n : ℕ) (p q : Piece) → IsIn (n, p) (numbered number pieces)
    → IsIn (n, q) (numbered number pieces) → counted p.kind n ≡ n + 1 → counted q.kind n ≡ n + 1 → p ≡ q
one_opener [] number n p q is is' counts counts' = absurd is
one_opener (piece ∷ later) number n p q (inl here) (inl here') counts counts' = ap (λ (z : ℕ × Piece). z.1) (here ∙ sym here')
one_opener (piece ∷ later) number n p q (inl here) (inr is') counts counts' =
    let few = least later (counted piece.kind number) (n, q) is' in
    let count = subst (λ (x : ℕ × Piece). counted x.1.kind x.0 ≡ x.0 + 1) here counts in
    absurd (omega (arith, few, count, ap (λ (z : ℕ × Piece). z.0) here))
one_opener (piece ∷ later) number n p q (inr is) (inl here') counts counts' =
    let few = least later (counted piece.kind number) (n, p) is in
    let count = subst (λ (x : ℕ × Piece). counted x.1.kind x.0 ≡ x.0 + 1) here' counts' in
    absurd (omega (arith, few, count, ap (λ (z : ℕ × Piece). z.0) here'))
one_opener (piece ∷ later) number n p q (inr is) (inr is') counts counts' =
    one_opener later (counted piece.kind number) n p q is is' counts counts'

-- ---- the pieces of spans

-- a delimiter run has what stands between two offsets
pub record HasRun (all : List (ℕ × Piece)) (a b : ℕ) : Type 0 where
  pub number : ℕ
  pub run : DelimiterRun
  pub first : ℕ
  pub last : ℕ
  pub is_in : IsIn (number, record { kind = K.Delimiters run; start = first; end = last }) all
  pub begins : first ≤ a
  pub ends : b ≤ last

abbrev pub opener_kind : Bool → PieceKind
opener_kind is_image = if is_image then K.ImageOpener else K.LinkOpener

-- an opener has this number, and stands between two offsets
abbrev pub HasOpener : List (ℕ × Piece) → ℕ → Bool → ℕ → ℕ → Type 0
HasOpener all number is_image a b = IsIn (number, record { kind = opener_kind is_image; start = a; end = b }) all

pub record HasCloser (all : List (ℕ × Piece)) (a b : ℕ) : Type 0 where
  pub number : ℕ
  pub is_in : IsIn (number, record { kind = K.Closer; start = a; end = b }) all

-- a span begins and ends with pieces of the text
abbrev pub HasPieces : List (ℕ × Piece) → Span → Type 0
HasPieces all (inl e) = HasRun all e.opening (e.opening + e.count) × HasRun all e.closing (e.closing + e.count)
HasPieces all (inr link) =
    HasOpener all link.0 link.1.is_image link.1.source.start link.1.text.start × HasCloser all link.1.text.end link.1.source.end
