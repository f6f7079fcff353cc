-- The spans of a text that is read fit, and begin and end with its pieces.
use Rattle.std.proofs.Common.{ℕ, Bool, true, false, List, [], ◌∷◌, ◌++◌, ◌≡◌, ◌<◌, ◌≤◌, ◌+◌, ◌⊎◌, ◌∙◌, inl, inr, arith, refl, sym, ap, subst}
use Rattle.std.proofs.Common.{take, drop, length, Option, Some, None, slice_set}
use Rattle.std.specs.Prelude.{⊤}
use Rattle.std.proofs.lemmas.List.{length-append, length-set, length-take}
use Rattle.markdown_inlines.specs.Emphasis.{emphasis_of}
use Rattle.markdown_inlines.specs.EmphasisLaws.{AreInOrder}
use Rattle.markdown_inlines.specs.Inlines.{Reading, at_start, with_run, with_opener, with_piece, with_link, IsLink, IsClosed, AreRead, IsCut}
use Rattle.markdown_inlines.specs.Inlines.{Setting}
use Rattle.markdown_inlines.specs.Links.{Known}
use Rattle.markdown_inlines.specs.Output.{counted}
use Rattle.markdown_inlines.specs.Pieces.{BeginsAt}
use Rattle.markdown_inlines.specs.declared.delimiter_runs.DelimiterRun.{DelimiterRun}
use Rattle.markdown_inlines.specs.declared.emphasis.Delimiters.{Delimiters}
use Rattle.markdown_inlines.specs.declared.emphasis.Emphasis.{Emphasis}
use Rattle.markdown_values.specs.declared.values.extensions.Extensions.{Extensions}
use Rattle.markdown_inlines.specs.declared.links.Link.{Link}
use Rattle.markdown_inlines.specs.declared.pieces.Piece.{Piece}
use Rattle.markdown_inlines.specs.declared.pieces.PieceKind.{PieceKind}
use Rattle.markdown_inlines.specs.declared.pieces.PieceKind.TheVariants as K
use Rattle.markdown_inlines.specs.declared.reading.Opener.{Opener}
use Rattle.markdown_inlines.proofs.cut.LinkLaws.{added_in, link_ends_after}
use Rattle.markdown_inlines.proofs.wiki_links.WikiLinkLemmas.{opener_later}
use Rattle.markdown_inlines.proofs.cut.OneCut.{kind_number, ReadAs, read_as}
use Rattle.markdown_inlines.proofs.inlines.NestLemmas.{AreLaid}
use Rattle.markdown_inlines.proofs.inlines.NumberedPieces.{numbered, IsLong, Follow, opener_kind, HasOpener, HasCloser}
use Rattle.markdown_inlines.proofs.inlines.SettledSpans.{IsSettled, IsRunBefore, Beside, AreSettled, run_later, all_later, order_added, order_taken}
use Rattle.markdown_inlines.proofs.inlines.SettledSpans.{order_dropped, with_emphasis, new_from, old_or_new, with_a_link, old_or_link}
use Rattle.markdown_inlines.proofs.inlines.Spans.{IsIn, in_both, in_taken, in_dropped, taken_twice, dropped_taken, taken_added, dropped_added, Span}
use Rattle.markdown_inlines.proofs.inlines.Spans.{start, end, IsSpan}

dropped_all : {X : Type 0} (xs : List X) (x : X) → ¬ IsIn x (drop (length xs) xs)
dropped_all [] x is = is
dropped_all (y ∷ ys) x is = dropped_all ys x is

-- ---- openers

module _ (all : List (ℕ × Piece)) where
  -- An opener stands before an offset. So many runs at most stand before it; the others, and the spans, stand before it or after it.
  record IsOpenerBefore (IsOne : Span → Type 0) (runs : List Delimiters) (offset count : ℕ) (opener : Opener) : Type 0 where
    has : HasOpener all opener.number opener.is_image opener.start opener.text
    some : opener.start < opener.text
    before : opener.text ≤ offset
    few : opener.runs ≤ count
    spans : (s : Span) → IsOne s → (opener.text ≤ start s) ⊎ (end s ≤ opener.start)
    first : (d : Delimiters) → IsIn d (take opener.runs runs) → d.end ≤ opener.start
    rest : (d : Delimiters) → IsIn d (drop opener.runs runs) → opener.text ≤ d.start

  abbrev AreOpeners : (Span → Type 0) → List Delimiters → ℕ → ℕ → List Opener → Type 0
  AreOpeners IsOne runs offset count [] = ⊤
  AreOpeners IsOne runs offset count (opener ∷ outer) =
      IsOpenerBefore IsOne runs offset count opener × AreOpeners IsOne runs opener.start opener.runs outer

  openers_later : (IsOne : Span → Type 0) (runs : List Delimiters) (offset offset' count count' : ℕ) (openers : List Opener)
      → offset ≤ offset' → count ≤ count' → AreOpeners IsOne runs offset count openers → AreOpeners IsOne runs offset' count' openers
  openers_later IsOne runs offset offset' count count' [] later more are = tt
  openers_later IsOne runs offset offset' count count' (opener ∷ outer) later more (is, are) = (
    record {
      has = is.has;
      some = is.some;
      before = omega (arith, is.before, later);
      few = omega (arith, is.few, more);
      spans = is.spans;
      first = is.first;
      rest = is.rest;
    },
    are,
  )

  -- with spans and runs that begin after the openers
  openers_with : (IsOne IsOne' : Span → Type 0) (runs runs' : List Delimiters) (offset count : ℕ) (openers : List Opener)
      → ((s : Span) → IsOne' s → (offset ≤ start s) ⊎ IsOne s)
      → ((n : ℕ) (d : Delimiters) → n ≤ count → IsIn d (take n runs') → IsIn d (take n runs))
      → ((n : ℕ) (d : Delimiters) → n ≤ count → IsIn d (drop n runs') → (offset ≤ d.start) ⊎ IsIn d (drop n runs))
      → AreOpeners IsOne runs offset count openers → AreOpeners IsOne' runs' offset count openers
  openers_with IsOne IsOne' runs runs' offset count [] each first rest are = tt
  openers_with IsOne IsOne' runs runs' offset count (opener ∷ outer) each first rest (is, are) = (
    record {
      has = is.has;
      some = is.some;
      before = is.before;
      few = is.few;
      spans = λ s one. elim (each s one) [
        | inl later ↦ inl (omega (arith, is.before, later))
        | inr old ↦ is.spans s old
      ];
      first = λ d inside. is.first d (first opener.runs d is.few inside);
      rest = λ d inside. elim (rest opener.runs d is.few inside) [
        | inl later ↦ omega (arith, is.before, later)
        | inr old ↦ is.rest d old
      ];
    },
    openers_with IsOne IsOne' runs runs' opener.start opener.runs outer
        (λ s one. earlier (start s) (IsOne s) (each s one))
        (λ n d few inside. first n d (omega (arith, few, is.few)) inside)
        (λ n d few inside. earlier d.start (IsIn d (drop n runs)) (rest n d (omega (arith, few, is.few)) inside)) are,
  )
    where
      earlier : (at : ℕ) (Old : Type 0) → (offset ≤ at) ⊎ Old → (opener.start ≤ at) ⊎ Old
      earlier at Old (inl later) = inl (omega (arith, later, is.before, is.some))
      earlier at Old (inr old) = inr old

  -- ---- what holds while a text is read

  record IsKept (reading : Reading) (offset number : ℕ) : Type 0 where
    numbers : length reading.links ≡ number
    past_first_line : AreSettled all offset reading.links reading.emphasis
    order : AreInOrder reading.runs
    runs : (d : Delimiters) → IsIn d reading.runs → IsRunBefore all offset d
    beside : (d : Delimiters) → IsIn d reading.runs → (s : Span) → IsSpan reading.links reading.emphasis s → Beside d s
    openers : AreOpeners (IsSpan reading.links reading.emphasis) reading.runs offset (length reading.runs) reading.openers

  -- ---- pieces that are no right bracket

  module _ (piece : Piece) (reading : Reading) (number : ℕ) (is_in : IsIn (number, piece) all) (kept : IsKept reading piece.start number) where
    moved : (offset : ℕ) → piece.start ≤ offset → IsKept reading offset number
    moved offset later = record {
      numbers = kept.numbers;
      past_first_line = all_later all piece.start offset reading.links reading.emphasis later kept.past_first_line;
      order = kept.order;
      runs = λ d is. run_later all piece.start offset d later (kept.runs d is);
      beside = kept.beside;
      openers = openers_later (IsSpan reading.links reading.emphasis) reading.runs piece.start offset _ _ reading.openers later (omega arith) kept.openers;
    }

    run_kept : (run : DelimiterRun) → piece.kind ≡ K.Delimiters run → piece.start ≤ piece.end → IsKept (with_run run piece reading) piece.end number
    run_kept run kind later = record {
      numbers = kept.numbers;
      past_first_line = (moved piece.end later).past_first_line;
      order = order_added reading.runs added kept.order (λ d is. (kept.runs d is).before) later;
      runs = λ d is. runs d (in_both d reading.runs (added ∷ []) is);
      beside = λ d is s one. beside d (in_both d reading.runs (added ∷ []) is) s one;
      openers = openers_later one (reading.runs ++ added ∷ []) piece.start piece.end (length reading.runs) (length (reading.runs ++ added ∷ []))
          reading.openers later (omega (arith, length-append reading.runs (added ∷ [])))
          (openers_with one one reading.runs (reading.runs ++ added ∷ []) piece.start (length reading.runs) reading.openers
          (λ s is. inr is) (λ n d few inside. taken_added n reading.runs added d few inside) rest kept.openers);
    }
      where
        added : Delimiters
        added = record { start = piece.start; end = piece.end; run = run }

        one : Span → Type 0
        one = IsSpan reading.links reading.emphasis

        runs : (d : Delimiters) → IsIn d reading.runs ⊎ IsIn d (added ∷ []) → IsRunBefore all piece.end d
        runs d (inl old) = run_later all piece.start piece.end d later (kept.runs d old)
        runs d (inr (inl same)) = subst (IsRunBefore all piece.end) (sym same) (record {
          number = number;
          is_in = subst (λ k. IsIn (number, record { kind = k; start = piece.start; end = piece.end }) all) kind is_in;
          before = omega arith;
        })
        runs d (inr (inr none)) = absurd none

        beside : (d : Delimiters) → IsIn d reading.runs ⊎ IsIn d (added ∷ []) → (s : Span) → IsSpan reading.links reading.emphasis s → Beside d s
        beside d (inl old) s is = kept.beside d old s is
        beside d (inr (inl same)) s is =
            inr (omega (arith, (kept.past_first_line.each s is).before, ap (λ (o : Delimiters). o.start) same))
        beside d (inr (inr none)) s is = absurd none

        rest : (n : ℕ) (d : Delimiters) → n ≤ length reading.runs → IsIn d (drop n (reading.runs ++ added ∷ []))
            → (piece.start ≤ d.start) ⊎ IsIn d (drop n reading.runs)
        rest n d few inside = elim (dropped_added n reading.runs added d few inside) [
          | inl old ↦ inr old
          | inr same ↦ inl (omega (arith, ap (λ (o : Delimiters). o.start) same))
        ]

    opener_kept : (is_image : Bool) → piece.kind ≡ opener_kind is_image → piece.start < piece.end
        → IsKept (with_opener is_image piece reading) piece.end (number + 1)
    opener_kept is_image kind some = record {
      numbers = length-append reading.links (None ∷ []) ∙ ap (λ n. n + 1) kept.numbers;
      past_first_line = record {
        fit = λ s t is is'. here.past_first_line.fit s t (old s is) (old t is');
        each = λ s is. here.past_first_line.each s (old s is);
      };
      order = kept.order;
      runs = here.runs;
      beside = λ d is s one. kept.beside d is s (old s one);
      openers = (
        record {
          has = subst (λ n. HasOpener all n is_image piece.start piece.end) (sym kept.numbers)
              (subst (λ k. IsIn (number, record { kind = k; start = piece.start; end = piece.end }) all) kind is_in);
          some = some;
          before = omega arith;
          few = omega arith;
          spans = λ s is. inr (kept.past_first_line.each s (old s is)).before;
          first = λ d inside. (kept.runs d (in_taken (length reading.runs) reading.runs d inside)).before;
          rest = λ d inside. absurd (dropped_all reading.runs d inside);
        },
        openers_with (IsSpan reading.links reading.emphasis) (IsSpan (reading.links ++ None ∷ []) reading.emphasis) reading.runs reading.runs
            piece.start (length reading.runs) reading.openers (λ s is. inr (old s is)) (λ n d few inside. inside) (λ n d few inside. inr inside)
            kept.openers,
      );
    }
      where
        here : IsKept reading piece.end number
        here = moved piece.end (omega (arith, some))

        old : (s : Span) → IsSpan (reading.links ++ None ∷ []) reading.emphasis s → IsSpan reading.links reading.emphasis s
        old (inl e) is = is
        old (inr link) is = added_in reading.links link.0 link.1 is

    with_piece_kept : (asked : Extensions) (text : List ℕ) (kind : PieceKind) (len : ℕ) → piece.kind ≡ kind
        → BeginsAt asked text piece.start piece.start kind len
        → piece.end ≡ piece.start + len → IsKept (with_piece kind piece reading) piece.end (counted kind number)
    with_piece_kept asked text K.Text len is begins end = moved piece.end (omega (arith, end))
    with_piece_kept asked text K.Escape len is begins end = moved piece.end (omega (arith, end))
    with_piece_kept asked text K.HardBreak len is begins end = moved piece.end (omega (arith, end))
    with_piece_kept asked text K.SoftBreak len is begins end = moved piece.end (omega (arith, end))
    with_piece_kept asked text K.Reference len is begins end = moved piece.end (omega (arith, end))
    with_piece_kept asked text (K.Code backticks) len is begins end = moved piece.end (omega (arith, end))
    with_piece_kept asked text K.Uri len is begins end = moved piece.end (omega (arith, end))
    with_piece_kept asked text K.Email len is begins end = moved piece.end (omega (arith, end))
    with_piece_kept asked text K.Html len is begins end = moved piece.end (omega (arith, end))
    with_piece_kept asked text (K.Delimiters run) len is begins end = run_kept run is (omega (arith, end))
    with_piece_kept asked text K.LinkOpener len is begins end =
        opener_kept false is (omega (arith, end, opener_later asked text piece.start (piece.start + len) begins.1))
    with_piece_kept asked text K.ImageOpener len is begins end =
        opener_kept true is (omega (arith, end, opener_later asked text (piece.start + 1) (piece.start + len) begins.1))
    with_piece_kept asked text K.Closer len is begins end = moved piece.end (omega (arith, end))

  -- ---- right brackets

  module _ (known : Known) (reading : Reading) (close number : ℕ) (kept : IsKept reading close number) (opener : Opener) (outer : List Opener)
      (are : AreOpeners (IsSpan reading.links reading.emphasis) reading.runs close (length reading.runs) (opener ∷ outer)) where
    none_kept : (end : ℕ) → close ≤ end → IsKept (record reading { openers = outer }) end number
    none_kept end later = record {
      numbers = kept.numbers;
      past_first_line = all_later all close end reading.links reading.emphasis later kept.past_first_line;
      order = kept.order;
      runs = λ d is. run_later all close end d later (kept.runs d is);
      beside = kept.beside;
      openers = openers_later (IsSpan reading.links reading.emphasis) reading.runs opener.start end opener.runs (length reading.runs) outer
          (omega (arith, are.0.some, are.0.before, later)) are.0.few are.1;
    }

    module _ (link : Link) (is_link : IsLink reading.text known opener close link)
        (is_in : IsIn (number, record { kind = K.Closer; start = close; end = link.source.end }) all) where
      abbrev inner : List Delimiters
      inner = drop opener.runs reading.runs

      abbrev emphasis' : List Emphasis
      emphasis' = reading.emphasis ++ emphasis_of inner

      inner_runs : (d : Delimiters) → IsIn d inner → IsRunBefore all close d
      inner_runs d is = kept.runs d (in_dropped opener.runs reading.runs d is)

      inner_beside : (d : Delimiters) → IsIn d inner → (s : Span) → IsSpan reading.links reading.emphasis s → Beside d s
      inner_beside d is s one = kept.beside d (in_dropped opener.runs reading.runs d is) s one

      inner_order : AreInOrder inner
      inner_order = order_dropped opener.runs reading.runs kept.order

      with_inner : AreSettled all close reading.links emphasis'
      with_inner =
          with_emphasis all close reading.links reading.emphasis inner kept.past_first_line inner_order inner_runs inner_beside

      -- each is old, or begins after the opener
      old_or_inner : (s : Span) → IsSpan reading.links emphasis' s → IsSpan reading.links reading.emphasis s ⊎ (opener.text ≤ start s)
      old_or_inner s is = elim (old_or_new all close reading.links reading.emphasis inner kept.past_first_line inner_order inner_runs inner_beside s is) [
        | inl old ↦ inl old
        | inr new ↦ inr (omega (
          arith,
          new_from all close reading.links reading.emphasis inner kept.past_first_line inner_order inner_runs inner_beside opener.text are.0.rest new.0 new.2,
          ap start new.1,
        ))
      ]

      around : (s : Span) → IsSpan reading.links emphasis' s → (link.text.start ≤ start s) ⊎ (end s ≤ link.source.start)
      around s is = elim (old_or_inner s is) [
        | inl old ↦ elim (are.0.spans s old) [
          | inl within ↦ inl (omega (arith, within, is_link.text_begins))
          | inr apart ↦ inr (omega (arith, apart, is_link.begins))
        ]
        | inr within ↦ inl (omega (arith, within, is_link.text_begins))
      ]

      link_settled : IsSettled all link.source.end (inr (opener.number, link))
      link_settled =
          let after = link_ends_after reading.text known opener close link.target link.source.end is_link.target in record {
            whole = record {
              opens = omega (arith, are.0.some, is_link.begins, is_link.text_begins);
              in_order = omega (arith, are.0.before, is_link.text_begins, is_link.text_ends);
              closes = omega (arith, after, is_link.text_ends);
            };
            has = (
              subst (λ image. HasOpener all opener.number image link.source.start link.text.start) (sym is_link.is_image)
                  (subst (λ n. HasOpener all opener.number opener.is_image n link.text.start) (sym is_link.begins)
                  (subst (λ n. HasOpener all opener.number opener.is_image opener.start n) (sym is_link.text_begins) are.0.has)),
              subst (λ n. HasCloser all n link.source.end) (sym is_link.text_ends) (record { number = number; is_in = is_in }),
            );
            before = omega arith;
            counts = tt;
          }

      abbrev links' : List (Option Link)
      links' = slice_set reading.links opener.number (Some link)

      ended_settled : AreSettled all link.source.end links' emphasis'
      ended_settled =
          with_a_link all close reading.links emphasis' opener.number link with_inner link_settled (omega (arith, is_link.text_ends)) around

      later_or_old : (s : Span) → IsSpan links' emphasis' s → (opener.start ≤ start s) ⊎ IsSpan reading.links reading.emphasis s
      later_or_old s is =
          elim (old_or_link all close reading.links emphasis' opener.number link with_inner link_settled (omega (arith, is_link.text_ends)) around s is) [
            | inl one ↦ elim (old_or_inner s one) [
              | inl old ↦ inr old
              | inr within ↦ inl (omega (arith, within, are.0.some))
            ]
            | inr same ↦ inl (omega (arith, ap start same, is_link.begins))
          ]

      link_kept : IsKept (with_link link opener outer reading) link.source.end number
      link_kept =
          let after = link_ends_after reading.text known opener close link.target link.source.end is_link.target in record {
            numbers = length-set reading.links opener.number (Some link) ∙ kept.numbers;
            past_first_line = ended_settled;
            order = order_taken opener.runs reading.runs kept.order;
            runs = λ d is. run_later all close link.source.end d (omega (arith, after)) (kept.runs d (in_taken opener.runs reading.runs d is));
            beside = beside;
            openers = openers_later (IsSpan links' emphasis') (take opener.runs reading.runs) opener.start link.source.end opener.runs
                (length (take opener.runs reading.runs)) outer
                (omega (arith, are.0.some, are.0.before, after))
                (omega (arith, are.0.few, length-take opener.runs reading.runs))
                (openers_with (IsSpan reading.links reading.emphasis) (IsSpan links' emphasis') reading.runs (take opener.runs reading.runs)
                opener.start opener.runs outer later_or_old (λ n d few inside. taken_twice n opener.runs reading.runs d inside)
                (λ n d few inside. inr (dropped_taken n opener.runs reading.runs d inside)) are.1);
          }
        where
          beside : (d : Delimiters) → IsIn d (take opener.runs reading.runs) → (s : Span) → IsSpan links' emphasis' s → Beside d s
          beside d is s one = elim (later_or_old s one) [
            | inl later ↦ inl (omega (arith, are.0.first d is, later))
            | inr old ↦ kept.beside d (in_taken opener.runs reading.runs d is) s old
          ]

  closed_kept : (known : Known) (openers : List Opener) (reading : Reading) (piece : Piece) (next : Reading) (number : ℕ) → reading.openers ≡ openers
      → IsIn (number, piece) all → piece.kind ≡ K.Closer → IsKept reading piece.start number
      → IsClosed known openers reading piece.start piece.end next → (piece.start < piece.end) × IsKept next piece.end number
  closed_kept known [] reading piece next number are is_in kind kept is =
      let some : piece.start < piece.end = omega (arith, is.0) in
      (some, subst (λ r. IsKept r piece.end number) (sym is.1) (moved piece reading number is_in kept piece.end (omega (arith, some))))
  closed_kept known (opener ∷ outer) reading piece next number are is_in kind kept (inl is) =
      let openers = subst (AreOpeners (IsSpan reading.links reading.emphasis) reading.runs piece.start (length reading.runs)) are kept.openers in
      let closer = subst (λ k. IsIn (number, record { kind = k; start = piece.start; end = piece.end }) all) kind is_in in
      let closer' = subst (λ n. IsIn (number, record { kind = K.Closer; start = piece.start; end = n }) all) is.end_is closer in
      let after = link_ends_after reading.text known opener piece.start is.link.target is.link.source.end is.is_link.target in
      let ended = link_kept known reading piece.start number kept opener outer openers is.link is.is_link closer' in (
        omega (arith, after, is.end_is),
        subst (λ r. IsKept r piece.end number) (sym is.next_is)
            (subst (λ n. IsKept (with_link is.link opener outer reading) n number) (sym is.end_is) ended),
      )
  closed_kept known (opener ∷ outer) reading piece next number are is_in kind kept (inr is) =
      let openers = subst (AreOpeners (IsSpan reading.links reading.emphasis) reading.runs piece.start (length reading.runs)) are kept.openers in
      let some : piece.start < piece.end = omega (arith, is.end_is) in (
        some,
        subst (λ r. IsKept r piece.end number) (sym is.next_is)
            (none_kept known reading piece.start number kept opener outer openers piece.end (omega (arith, some))),
      )

  -- ---- the whole text

  read_kept : (setting : Setting) (reading : Reading) (piece : Piece) (next : Reading) (number : ℕ) → ReadAs setting reading piece next
      → IsIn (number, piece) all → IsKept reading piece.start number → IsLong piece × IsKept next piece.end (counted piece.kind number)
  read_kept setting reading piece next number (inl is) is_in kept =
      let later : piece.start < piece.end = is.is_text.some in (
        (omega (arith, later), λ _. later),
        subst (IsKept next piece.end) (ap (λ k. counted k number) (sym is.kind_is)) (subst (λ r. IsKept r piece.end number) (sym is.next_is)
            (moved piece reading number is_in kept piece.end (omega (arith, later)))),
      )
  read_kept setting reading piece next number (inr (inl is)) is_in kept =
      let after = closed_kept setting.known reading.openers reading piece next number refl is_in is.kind_is kept is.closed in (
        (omega (arith, after.0), λ _. after.0),
        subst (IsKept next piece.end) (ap (λ k. counted k number) (sym is.kind_is)) after.1,
      )
  read_kept setting reading piece next number (inr (inr is)) is_in kept = (
    (omega (arith, is.at.end_is), λ closer. absurd (omega (arith, is.kind_is, ap kind_number closer))),
    subst (λ r. IsKept r piece.end (counted piece.kind number)) (sym is.next_is)
        (with_piece_kept piece reading number is_in kept setting.asked reading.text piece.kind is.at.len refl is.at.begins is.at.end_is),
  )

  all_kept : (setting : Setting) (offset : ℕ) (reading : Reading) (pieces : List Piece) (last : Reading) (number : ℕ)
      → AreRead setting offset reading pieces last → ((x : ℕ × Piece) → IsIn x (numbered number pieces) → IsIn x all) → IsKept reading offset number
      → Follow offset pieces (length last.text) × (number' : ℕ) × IsKept last (length last.text) number'
  all_kept setting offset reading [] last number is are_in kept =
      let same : offset ≡ length last.text = is.0 ∙ ap (λ (r : Reading). length r.text) (sym is.1) in
      (same, number, subst (λ n. IsKept last n number) same (subst (λ r. IsKept r offset number) (sym is.1) kept))
  all_kept setting offset reading (piece ∷ later) last number is are_in kept =
      let view = read_as setting reading piece is.1 piece.kind refl is.2 in
      let after = read_kept setting reading piece is.1 number view (are_in (number, piece) (inl refl))
      (subst (λ n. IsKept reading n number) (sym is.0) kept) in
      let rest = all_kept setting piece.end is.1 later last (counted piece.kind number) is.3 (λ x inside. are_in x (inr inside)) after.1 in
      ((is.0, after.0, rest.0), rest.1, rest.2)

-- ---- the text stays

with_piece_text : (kind : PieceKind) (piece : Piece) (reading : Reading) → (with_piece kind piece reading).text ≡ reading.text
with_piece_text K.Text piece reading = refl
with_piece_text K.Escape piece reading = refl
with_piece_text K.HardBreak piece reading = refl
with_piece_text K.SoftBreak piece reading = refl
with_piece_text K.Reference piece reading = refl
with_piece_text (K.Code backticks) piece reading = refl
with_piece_text K.Uri piece reading = refl
with_piece_text K.Email piece reading = refl
with_piece_text K.Html piece reading = refl
with_piece_text (K.Delimiters run) piece reading = refl
with_piece_text K.LinkOpener piece reading = refl
with_piece_text K.ImageOpener piece reading = refl
with_piece_text K.Closer piece reading = refl

closed_text : (known : Known) (openers : List Opener) (reading : Reading) (close end : ℕ) (next : Reading)
    → IsClosed known openers reading close end next → next.text ≡ reading.text
closed_text known [] reading close end next is = ap (λ (r : Reading). r.text) is.1
closed_text known (opener ∷ outer) reading close end next (inl is) = ap (λ (r : Reading). r.text) is.next_is
closed_text known (opener ∷ outer) reading close end next (inr is) = ap (λ (r : Reading). r.text) is.next_is

read_text : (setting : Setting) (reading : Reading) (piece : Piece) (next : Reading) → ReadAs setting reading piece next → next.text ≡ reading.text
read_text setting reading piece next (inl is) = ap (λ (r : Reading). r.text) is.next_is
read_text setting reading piece next (inr (inl is)) = closed_text setting.known reading.openers reading piece.start piece.end next is.closed
read_text setting reading piece next (inr (inr is)) =
    ap (λ (r : Reading). r.text) is.next_is ∙ with_piece_text piece.kind piece reading

all_text : (setting : Setting) (offset : ℕ) (reading : Reading) (pieces : List Piece) (last : Reading) → AreRead setting offset reading pieces last
    → last.text ≡ reading.text
all_text setting offset reading [] last is = ap (λ (r : Reading). r.text) is.1
all_text setting offset reading (piece ∷ later) last is =
    all_text setting piece.end is.1 later last is.3
    ∙ read_text setting reading piece is.1 (read_as setting reading piece is.1 piece.kind refl is.2)

start_kept : (text : List ℕ) (all : List (ℕ × Piece)) → IsKept all (at_start text) 0 0
start_kept text all = record {
  numbers = refl;
  past_first_line = record { fit = λ s t is is'. absurd (none s is); each = λ s is. absurd (none s is) };
  order = tt;
  runs = λ d is. absurd is;
  beside = λ d is s one. absurd is;
  openers = tt;
}
  where
    none : (s : Span) → ¬ IsSpan [] [] s
    none (inl e) is = is
    none (inr link) is = (let none : None ≡ Some (Some link.1) = is in cc)

-- the spans of a text are laid so that they fit
pub cut_is_laid : (text : List ℕ) (setting : Setting) (pieces : List Piece) (links : List (Option Link)) (emphasis : List Emphasis)
    → IsCut text setting pieces links emphasis → AreLaid links emphasis pieces (length text)
cut_is_laid text setting pieces links emphasis is =
    let all = numbered 0 pieces in
    let last = is.last in
    let kept = all_kept all setting 0 (at_start text) pieces last 0 is.read (λ x inside. inside) (start_kept text all) in
    let past_first_line = with_emphasis all (length last.text) last.links last.emphasis last.runs kept.2.past_first_line kept.2.order kept.2.runs kept.2.beside in
    let laid : AreLaid last.links (last.emphasis ++ emphasis_of last.runs) pieces (length last.text) = record {
      follow = kept.0;
      fit = past_first_line.fit;
      whole = λ s one. (past_first_line.each s one).whole;
      has = λ s one. (past_first_line.each s one).has;
      counts = λ e inside. (past_first_line.each (inl e) inside).counts;
    } in
    subst (λ t. AreLaid links emphasis pieces (length t)) (all_text setting 0 (at_start text) pieces last is.read)
    (subst (λ ls. AreLaid ls emphasis pieces (length last.text)) (sym is.links_are)
    (subst (λ es. AreLaid last.links es pieces (length last.text)) (sym is.emphasis_is) laid))
