-- Spans that fit, and what is added to them.
use Rattle.std.proofs.Common.{ℕ, zero, suc, List, [], ◌∷◌, ◌++◌, ◌≡◌, ◌<◌, ◌≤◌, ◌+◌, ◌⊎◌, ◌∙◌, inl, inr, arith, refl, sym, ap, subst, take, drop}
use Rattle.std.proofs.Common.{Option, Some, slice_set}
use Rattle.std.specs.Prelude.{⊤}
use Rattle.markdown_inlines.specs.Emphasis.{emphasis_of}
use Rattle.markdown_inlines.specs.EmphasisLaws.{AreInOrder, IsMade}
use Rattle.markdown_inlines.specs.declared.emphasis.Delimiters.{Delimiters}
use Rattle.markdown_inlines.specs.declared.emphasis.Emphasis.{Emphasis}
use Rattle.markdown_inlines.specs.declared.links.Link.{Link}
use Rattle.markdown_inlines.specs.declared.pieces.Piece.{Piece}
use Rattle.markdown_inlines.specs.declared.pieces.PieceKind.TheVariants as K
use Rattle.markdown_inlines.proofs.cut.LinkLaws.{put_in}
use Rattle.markdown_inlines.proofs.emphasis.MadeLemmas.{emphasis_is_made}
use Rattle.markdown_inlines.proofs.emphasis.NestLemmas.{emphasis_nests}
use Rattle.markdown_inlines.proofs.inlines.NumberedPieces.{HasPieces}
use Rattle.markdown_inlines.proofs.inlines.Spans.{IsIn, in_both, in_second, of_all, all_from, in_taken, Span, start, end, IsSpan}
use Rattle.markdown_inlines.proofs.inlines.Spans.{IsWhole, Fit, fit_turned, nested_fit}

-- ---- runs in order

pub order_added : (runs : List Delimiters) (run : Delimiters) → AreInOrder runs → ((d : Delimiters) → IsIn d runs → d.end ≤ run.start)
    → run.start ≤ run.end → AreInOrder (runs ++ run ∷ [])
order_added [] run order before fits = (fits, tt, tt)
order_added (first ∷ later) run order before fits = (
  order.0,
  all_from (λ other. first.end ≤ other.start) (later ++ run ∷ []) each,
  order_added later run order.2 (λ d is. before d (inr is)) fits,
)
  where
    each : (d : Delimiters) → IsIn d (later ++ run ∷ []) → first.end ≤ d.start
    each d is = elim (in_both d later (run ∷ []) is) [
      | inl old ↦ of_all (λ (other : Delimiters). first.end ≤ other.start) later d order.1 old
      | inr (inl same) ↦ omega (arith, before first (inl refl), ap (λ (o : Delimiters). o.start) same)
      | inr (inr none) ↦ absurd none
    ]

pub order_taken : (n : ℕ) (runs : List Delimiters) → AreInOrder runs → AreInOrder (take n runs)
order_taken zero runs order = tt
order_taken (suc n) [] order = tt
order_taken (suc n) (first ∷ later) order = (
  order.0,
  all_from (λ other. first.end ≤ other.start) (take n later)
      (λ d is. of_all (λ (other : Delimiters). first.end ≤ other.start) later d order.1 (in_taken n later d is)),
  order_taken n later order.2,
)

pub order_dropped : (n : ℕ) (runs : List Delimiters) → AreInOrder runs → AreInOrder (drop n runs)
order_dropped zero runs order = order
order_dropped (suc n) [] order = tt
order_dropped (suc n) (first ∷ later) order = order_dropped n later order.2

-- two of them, in order
pub both_in : (before : List Delimiters) (first : Delimiters) (between : List Delimiters) (second : Delimiters) (later : List Delimiters)
    → AreInOrder (before ++ first ∷ between ++ second ∷ later)
    → IsIn first (before ++ first ∷ between ++ second ∷ later) × IsIn second (before ++ first ∷ between ++ second ∷ later)
    × (first.end ≤ second.start)
both_in [] first between second later order =
    let is = in_second second between (second ∷ later) (inl refl) in
    (inl refl, inr is, of_all (λ (other : Delimiters). first.end ≤ other.start) (between ++ second ∷ later) second order.1 is)
both_in (x ∷ before) first between second later order =
    let more = both_in before first between second later order.2 in (inr more.0, inr more.1, more.2)

-- ---- what holds of one span, of one run and of all spans

abbrev pub IsCounted : Span → Type 0
IsCounted (inl e) = (e.count ≡ 1) ⊎ (e.count ≡ 2)
IsCounted (inr link) = ⊤

-- It stands before an offset, and begins and ends with these pieces.
pub record IsSettled (all : List (ℕ × Piece)) (offset : ℕ) (s : Span) : Type 0 where
  pub whole : IsWhole s
  pub has : HasPieces all s
  pub before : end s ≤ offset
  pub counts : IsCounted s

-- a run is one of these pieces, and stands before an offset
pub record IsRunBefore (all : List (ℕ × Piece)) (offset : ℕ) (run : Delimiters) : Type 0 where
  pub number : ℕ
  pub is_in : IsIn (number, record { kind = K.Delimiters run.run; start = run.start; end = run.end }) all
  pub before : run.end ≤ offset

-- a run stands before a span, or after it
abbrev pub Beside : Delimiters → Span → Type 0
Beside run s = (run.end ≤ start s) ⊎ (end s ≤ run.start)

pub record AreSettled (all : List (ℕ × Piece)) (offset : ℕ) (links : List (Option Link)) (emphasis : List Emphasis) : Type 0 where
  pub fit : (s t : Span) → IsSpan links emphasis s → IsSpan links emphasis t → (s ≡ t) ⊎ Fit s t
  pub each : (s : Span) → IsSpan links emphasis s → IsSettled all offset s

pub settled_later : (all : List (ℕ × Piece)) (offset offset' : ℕ) (s : Span) → offset ≤ offset' → IsSettled all offset s → IsSettled all offset' s
settled_later all offset offset' s later is = record {
  whole = is.whole;
  has = is.has;
  before = omega (arith, is.before, later);
  counts = is.counts;
}

pub run_later : (all : List (ℕ × Piece)) (offset offset' : ℕ) (run : Delimiters) → offset ≤ offset' → IsRunBefore all offset run
    → IsRunBefore all offset' run
run_later all offset offset' run later is = record { number = is.number; is_in = is.is_in; before = omega (arith, is.before, later) }

pub all_later : (all : List (ℕ × Piece)) (offset offset' : ℕ) (links : List (Option Link)) (emphasis : List Emphasis) → offset ≤ offset'
    → AreSettled all offset links emphasis → AreSettled all offset' links emphasis
all_later all offset offset' links emphasis later are =
    record { fit = are.fit; each = λ s is. settled_later all offset offset' s later (are.each s is) }

-- ---- emphasis is added

module _ (all : List (ℕ × Piece)) (offset : ℕ) (links : List (Option Link)) (emphasis : List Emphasis) (runs : List Delimiters)
    (past_first_line : AreSettled all offset links emphasis) (order : AreInOrder runs)
    (before : (run : Delimiters) → IsIn run runs → IsRunBefore all offset run)
    (beside : (run : Delimiters) → IsIn run runs → (s : Span) → IsSpan links emphasis s → Beside run s) where
  -- an opener and a closer that emphasis stands between
  record Between (e : Emphasis) : Type 0 where
    opener : Delimiters
    closer : Delimiters
    opener_in : IsIn opener runs
    closer_in : IsIn closer runs
    in_order : opener.end ≤ closer.start
    counted : (e.count ≡ 1) ⊎ (e.count ≡ 2)
    opening_from : opener.start ≤ e.opening
    opening_to : e.opening + e.count ≤ opener.end
    closing_from : closer.start ≤ e.closing
    closing_to : e.closing + e.count ≤ closer.end

  between : (e : Emphasis) → IsIn e (emphasis_of runs) → Between e
  between e is =
      let made : IsMade runs e = of_all (IsMade runs) (emphasis_of runs) e (emphasis_is_made runs) is in
      let both = both_in made.before made.opener made.between made.closer made.later (subst AreInOrder made.runs_are order) in record {
        opener = made.opener;
        closer = made.closer;
        opener_in = subst (IsIn made.opener) (sym made.runs_are) both.0;
        closer_in = subst (IsIn made.closer) (sym made.runs_are) both.1;
        in_order = both.2;
        counted = made.counted;
        opening_from = made.opening_from;
        opening_to = made.opening_to;
        closing_from = made.closing_from;
        closing_to = made.closing_to;
      }

  some : (e : Emphasis) → (e.count ≡ 1) ⊎ (e.count ≡ 2) → 0 < e.count
  some e (inl one) = omega (arith, one)
  some e (inr two) = omega (arith, two)

  new_settled : (e : Emphasis) → IsIn e (emphasis_of runs) → IsSettled all offset (inl e)
  new_settled e is =
      let b = between e is in
      let count = some e b.counted in
      let opener = before b.opener b.opener_in in
      let closer = before b.closer b.closer_in in record {
        whole = record {
          opens = omega (arith, count);
          in_order = omega (arith, b.opening_to, b.in_order, b.closing_from);
          closes = omega (arith, count);
        };
        has = (
          record {
            number = opener.number;
            run = b.opener.run;
            first = b.opener.start;
            last = b.opener.end;
            is_in = opener.is_in;
            begins = b.opening_from;
            ends = b.opening_to;
          },
          record {
            number = closer.number;
            run = b.closer.run;
            first = b.closer.start;
            last = b.closer.end;
            is_in = closer.is_in;
            begins = b.closing_from;
            ends = b.closing_to;
          },
        );
        before = omega (arith, b.closing_to, closer.before);
        counts = b.counted;
      }

  new_fits : (e : Emphasis) → IsIn e (emphasis_of runs) → (s : Span) → IsSpan links emphasis s → Fit (inl e) s
  new_fits e is s is' =
      let b = between e is in by b (beside b.opener b.opener_in s is') (beside b.closer b.closer_in s is')
    where
      by : (b : Between e) → Beside b.opener s → Beside b.closer s → Fit (inl e) s
      by b (inl first) (inl second) = inl (omega (arith, second, b.closing_to))
      by b (inl first) (inr second) = inr (inr (inl (omega (arith, first, b.opening_to), omega (arith, second, b.closing_from))))
      by b (inr first) second = inr (inl (omega (arith, first, b.opening_from)))

  -- it begins no earlier than the runs
  pub new_from : (least : ℕ) → ((run : Delimiters) → IsIn run runs → least ≤ run.start) → (e : Emphasis) → IsIn e (emphasis_of runs)
      → least ≤ e.opening
  new_from least each e is =
      let b = between e is in omega (arith, each b.opener b.opener_in, b.opening_from)

  -- each is old or new
  abbrev IsOldOrNew : Span → Type 0
  IsOldOrNew s = IsSpan links emphasis s ⊎ ((e : Emphasis) × (s ≡ inl e) × IsIn e (emphasis_of runs))

  pub old_or_new : (s : Span) → IsSpan links (emphasis ++ emphasis_of runs) s → IsOldOrNew s
  old_or_new (inl e) is = elim (in_both e emphasis (emphasis_of runs) is) [
    | inl old ↦ inl old
    | inr new ↦ inr (e, refl, new)
  ]
  old_or_new (inr link) is = inl is

  fit_by : (s t : Span) → IsOldOrNew s → IsOldOrNew t → (s ≡ t) ⊎ Fit s t
  fit_by s t (inl old) (inl old') = past_first_line.fit s t old old'
  fit_by s t (inl old) (inr (e, same, new)) =
      inr (subst (λ x. Fit s x) (sym same) (fit_turned (inl e) s (new_fits e new s old)))
  fit_by s t (inr (e, same, new)) (inl old) = inr (subst (λ x. Fit x t) (sym same) (new_fits e new t old))
  fit_by s t (inr (d, same, new)) (inr (e, same', new')) =
      subst (λ x. (x ≡ t) ⊎ Fit x t) (sym same) (subst (λ x. (inl d ≡ x) ⊎ Fit (inl d) x) (sym same')
      (elim (nested_fit (emphasis_of runs) (emphasis_nests runs order) d e new new') [
        | inl one ↦ inl (ap (λ (x : Emphasis). inl x) one)
        | inr fits ↦ inr fits
      ]))

  settled_by : (s : Span) → IsOldOrNew s → IsSettled all offset s
  settled_by s (inl old) = past_first_line.each s old
  settled_by s (inr (e, same, new)) = subst (IsSettled all offset) (sym same) (new_settled e new)

  pub with_emphasis : AreSettled all offset links (emphasis ++ emphasis_of runs)
  with_emphasis = record {
    fit = λ s t is is'. fit_by s t (old_or_new s is) (old_or_new t is');
    each = λ s is. settled_by s (old_or_new s is);
  }

-- ---- a link is added

module _ (all : List (ℕ × Piece)) (offset : ℕ) (links : List (Option Link)) (emphasis : List Emphasis) (number : ℕ) (link : Link)
    (past_first_line : AreSettled all offset links emphasis) (is : IsSettled all link.source.end (inr (number, link))) (after : offset ≤ link.text.end)
    (around : (s : Span) → IsSpan links emphasis s → (link.text.start ≤ start s) ⊎ (end s ≤ link.source.start)) where
  abbrev links' : List (Option Link)
  links' = slice_set links number (Some link)

  pub old_or_link : (s : Span) → IsSpan links' emphasis s → IsSpan links emphasis s ⊎ (s ≡ inr (number, link))
  old_or_link (inl e) is = inl is
  old_or_link (inr (n, a)) is = elim (put_in links number n (Some link) a is) [
    | inl here ↦ inr (let same : Some link ≡ Some a = here.1 in let one : link ≡ a = cc in λ i. inr (here.0 i, sym one i))
    | inr other ↦ inl other
  ]

  link_fits : (s : Span) → IsSpan links emphasis s → Fit (inr (number, link)) s
  link_fits s old = elim (around s old) [
    | inl within ↦ inr (inr (inl (within, omega (arith, (past_first_line.each s old).before, after))))
    | inr apart ↦ inr (inl apart)
  ]

  link_fit_by : (s t : Span) → IsSpan links emphasis s ⊎ (s ≡ inr (number, link)) → IsSpan links emphasis t ⊎ (t ≡ inr (number, link))
      → (s ≡ t) ⊎ Fit s t
  link_fit_by s t (inl old) (inl old') = past_first_line.fit s t old old'
  link_fit_by s t (inl old) (inr same) =
      inr (subst (λ x. Fit s x) (sym same) (fit_turned (inr (number, link)) s (link_fits s old)))
  link_fit_by s t (inr same) (inl old) = inr (subst (λ x. Fit x t) (sym same) (link_fits t old))
  link_fit_by s t (inr same) (inr same') = inl (same ∙ sym same')

  link_settled_by : (s : Span) → IsSpan links emphasis s ⊎ (s ≡ inr (number, link)) → IsSettled all link.source.end s
  link_settled_by s (inl old) =
      settled_later all offset link.source.end s (omega (arith, after, is.whole.closes)) (past_first_line.each s old)
  link_settled_by s (inr same) = subst (IsSettled all link.source.end) (sym same) is

  pub with_a_link : AreSettled all link.source.end links' emphasis
  with_a_link = record {
    fit = λ s t is is'. link_fit_by s t (old_or_link s is) (old_or_link t is');
    each = λ s is. link_settled_by s (old_or_link s is);
  }
