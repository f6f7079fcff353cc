use Rattle.std.proofs.Common.{◌≡◌, ◌++◌, ◌∷◌, [], ◌≤◌, ◌-◌, ◌*◌, ◌∙◌, ◌||◌, length, arith, refl, sym, subst, ap, List}
use Rattle.std.proofs.lemmas.Str.{IsCharBoundary-start, IsCharBoundary-end}
use Rattle.std.specs.Str.{IsCharBoundary}
use Rattle.markdown_inlines.specs.Inlines.{Setting, Reading, at_start, AreRead, text_between}
use Rattle.markdown_inlines.specs.Pieces.{IsNext, HasOnlyText, ReadText}
use Rattle.markdown_inlines.specs.Readings.{AreBefore, IsKept, reading_of}
use Rattle.markdown_inlines.specs.Searches.{bytes_passed, next_searched, pieces_searched, text_searched, unsearched}
use Rattle.markdown_inlines.specs.Sources.{AreSources, AreLinkSources}
use Rattle.markdown_inlines.specs.Written.{AreWritten, have_runs, is_run, pieces_of, written, written_as}
use Rattle.markdown_inlines.specs.declared.inlines.Inline.{Inline}
use Rattle.markdown_inlines.specs.declared.pieces.Piece.{Piece}
use Rattle.markdown_inlines.proofs.cut.CutLemmas.{next_piece_at, read_next, read_out, added, before_later, read_before}
use Rattle.markdown_inlines.proofs.cut.SourceLemmas.{source_added, text_added}
use Rattle.markdown_inlines.proofs.cut.WrittenLemmas.{piece_step, pieces_more, pieces_text, runs_more, runs_text, start_written, text_step}
use Rattle.markdown_inlines.proofs.reading.ReadingLemmas.{start_kept}
use Rattle.markdown_inlines.proofs.searches.SearchLemmas.{last_joined, next_joined}
use Rattle.markdown_inlines.proofs.cut.cut_within.Goals as goal

pub loop-piece-init : goal.loop-piece-init
loop-piece-init g c =
    let setting : Setting = record { asked = c.args.extensions; known = g.L.Labels.known c.args.labels.now } in
    let text = c.args.text.now in
    let start = c.restart.ensures text in
    let none : pieces_of c.clear.new.self.items ≡ [] = ap pieces_of c.clear.ensures.items in (
      subst (λ (l : List Piece). c.within-scanner.result ≡ record {
        text = text;
        asked = c.args.extensions;
        offset = 0;
        searched = pieces_searched text l (unsearched text);
      }) (sym none) c.within-scanner.ensures.start,
      omega arith,
      (λ later last read. subst (λ (l : List Piece). AreRead setting 0 (at_start text) (l ++ later) last) (sym none)
          (subst (λ (r : Reading). AreRead setting 0 r later last) start read)),
      subst (λ (l : List Piece). AreSources text l 0) (sym none)
          (record { each = λ k d inside. absurd (omega (arith, inside)); joined = refl }),
      IsCharBoundary-start text c.utf8.text,
      subst (λ (r : Reading). AreBefore r.openers 0) (sym start) tt,
      subst IsKept (sym start) (start_kept text),
      subst (λ (l : List Inline). AreWritten c.restart.new.self.links (reading_of text c.restart.new.self).openers l 0) (sym c.clear.ensures.items)
          (subst (λ (r : Reading). AreWritten r.links r.openers [] 0) (sym start) start_written),
      sym (ap have_runs none),
    )

pub read_piece-requires-clause-here : goal.read_piece-requires-clause-here
read_piece-requires-clause-here g c =
    let is_found = rw c.in-Some.is at c.in_ok-piece.ensures.found in
    let is = c.loop-piece.invariant in
    next_piece_at c.args.extensions c.args.text.now c.loop-piece.offset c.in-Some.piece
    (subst (λ (s : ReadText). IsNext s.asked s.text s.offset c.in-Some.piece) is.0 is_found)

pub read_piece-requires-clause-source : goal.read_piece-requires-clause-source
read_piece-requires-clause-source g c =
    let is_within = rw c.in-Some.is at c.in_ok-piece.ensures.within in
    let is_boundary = rw c.in-Some.is at c.in_ok-piece.ensures.boundary in
    let text = ap (λ (s : ReadText). s.text) c.loop-piece.invariant.0 in
    record {
      some = is_within.0;
      begins = subst (λ t. IsCharBoundary t c.in-Some.piece.start) text is_boundary.0;
      ends = subst (λ t. IsCharBoundary t c.in-Some.piece.end) text is_boundary.1;
    }

pub read_piece-requires-clause-before : goal.read_piece-requires-clause-before
read_piece-requires-clause-before g c =
    let is_found = rw c.in-Some.is at c.in_ok-piece.ensures.found in
    let is = c.loop-piece.invariant in
    let later : c.loop-piece.offset ≤ c.in-Some.piece.start =
    subst (λ (s : ReadText). s.offset ≤ c.in-Some.piece.start) is.0 is_found.later in
    before_later (reading_of c.args.text.now c.loop-piece.buffers.reader).openers c.loop-piece.offset c.in-Some.piece.start later is.5

pub read_piece-requires-clause-free : goal.read_piece-requires-clause-free
read_piece-requires-clause-free g c = c.loop-piece.invariant.7.free

pub read_piece-requires-clause-new : goal.read_piece-requires-clause-new
read_piece-requires-clause-new g c =
    let is_found = rw c.in-Some.is at c.in_ok-piece.ensures.found in
    let is = c.loop-piece.invariant in
    let later : c.loop-piece.offset ≤ c.in-Some.piece.start =
    subst (λ (s : ReadText). s.offset ≤ c.in-Some.piece.start) is.0 is_found.later in
    is.7.ended c.in-Some.piece.start later

pub read_to-requires-clause-later : goal.read_to-requires-clause-later
read_to-requires-clause-later g c =
    let is_read = rw c.in-Some.is at c.in_ok-piece.ensures.read in
    subst (λ (s : ReadText). s.offset ≤ c.in_ok-offset.offset) (sym is_read) c.in_ok-offset.ensures.within.0

pub read_to-requires-clause-within : goal.read_to-requires-clause-within
read_to-requires-clause-within g c =
    let is_read = rw c.in-Some.is at c.in_ok-piece.ensures.read in
    subst (λ text. c.in_ok-offset.offset ≤ length text)
    (sym (ap (λ (s : ReadText). s.text) c.loop-piece.invariant.0) ∙ sym (ap (λ (s : ReadText). s.text) is_read))
    c.in_ok-offset.ensures.within.1

pub loop-piece-smaller : goal.loop-piece-smaller
loop-piece-smaller g c =
    let is_found = rw c.in-Some.is at c.in_ok-piece.ensures.found in
    let is_within = rw c.in-Some.is at c.in_ok-piece.ensures.within in
    let later : c.loop-piece.offset ≤ c.in-Some.piece.start =
    subst (λ (s : ReadText). s.offset ≤ c.in-Some.piece.start) c.loop-piece.invariant.0 is_found.later in
    omega (arith, later, c.in_ok-offset.ensures.within.1, is_within.0, c.in_ok-offset.ensures.within.0)

pub loop-piece-preserved : goal.loop-piece-preserved
loop-piece-preserved g c =
    let is_found = rw c.in-Some.is at c.in_ok-piece.ensures.found in
    let is_within = rw c.in-Some.is at c.in_ok-piece.ensures.within in
    let is_boundary = rw c.in-Some.is at c.in_ok-piece.ensures.boundary in
    let is_read = rw c.in-Some.is at c.in_ok-piece.ensures.read in
    let is = c.loop-piece.invariant in
    let setting : Setting = record { asked = c.args.extensions; known = g.L.Labels.known c.args.labels.now } in
    let text = c.args.text.now in
    let reading = reading_of text c.loop-piece.buffers.reader in
    let piece = c.in-Some.piece in
    let inlines = c.loop-piece.buffers.inlines.items in
    let pieces = pieces_of inlines in
    let end = c.in_ok-offset.offset in
    let from = c.loop-piece.offset in
    let next = reading_of text c.read_piece.new.buffers.reader in
    let between = text_between from piece.start in
    let here : IsNext c.args.extensions text from piece = subst (λ (s : ReadText). IsNext s.asked s.text s.offset piece) is.0 is_found in
    let begins : IsCharBoundary text piece.start =
    subst (λ t. IsCharBoundary t piece.start) (ap (λ (s : ReadText). s.text) is.0) is_boundary.0 in
    let ends = c.in_ok-offset.ensures.boundary in
    let whole : Piece = record piece { end = end } in
    let texted = inlines ++ written [] between in
    let all = c.read_piece.new.buffers.inlines.items in
    let added_one : all ≡ texted ++ written_as piece.kind next.links whole ∷ [] =
    c.in_ok-offset.ensures.written ∙ ap (λ (l : List Inline). l ++ written_as piece.kind next.links whole ∷ []) c.in_ok-push_text.ensures in
    let pushed : pieces_of all ≡ (pieces ++ between) ++ whole ∷ [] =
    ap pieces_of added_one
    ∙ (pieces_more texted piece.kind next.links whole ∙ ap (λ (l : List Piece). l ++ whole ∷ []) (pieces_text inlines from piece.start)) in (
      c.read_to.ensures ∙ (ap (λ (s : ReadText). record s { offset = end }) is_read
          ∙ (ap (λ (s : ReadText). record s { offset = end; searched = next_searched s.text s.offset piece s.searched }) is.0
          ∙ ap (λ s. record { text = text; asked = c.args.extensions; offset = end; searched = s })
          (next_joined text pieces from end piece (unsearched text) (c.in_ok-offset.ensures.searched text)
          ∙ ap (λ (l : List Piece). pieces_searched text l (unsearched text)) (sym pushed)))),
      c.in_ok-offset.ensures.within.1,
      (λ later last read. subst (λ (l : List Piece). AreRead setting 0 (at_start text) l last)
          (sym (added pieces between later whole (pieces_of all) pushed))
          (is.2 (between ++ whole ∷ later) last
          (read_next setting from end reading next piece here c.in_ok-offset.ensures.read later last read))),
      subst (λ (l : List Piece). AreSources text l end) (sym pushed)
          (source_added text (pieces ++ between) (record piece { end = end })
          (text_added text pieces from piece.start is.3 here.later is.4 begins)
          (record { some = omega (arith, is_within.0, c.in_ok-offset.ensures.within.0); begins = begins; ends = ends })),
      ends,
      read_before setting reading next (record piece { end = end }) (omega (arith, is_within.0, c.in_ok-offset.ensures.within.0))
          (before_later reading.openers from piece.start here.later is.5) piece.kind c.in_ok-offset.ensures.read,
      c.in_ok-offset.ensures.kept,
      subst (λ (l : List Inline). AreWritten next.links next.openers l end) (sym added_one)
          (piece_step reading whole texted (omega (arith, is_within.0, c.in_ok-offset.ensures.within.0)) is.6
          (text_step reading.links reading.openers inlines from piece.start here.later is.7) setting next piece.kind c.in_ok-offset.ensures.read),
      c.or_is_run-has_runs.ensures ∙ (ap (λ b. b || is_run piece.kind) is.8 ∙ sym (ap have_runs pushed ∙ runs_more pieces from piece.start whole)),
    )

pub returns : goal.returns
returns g c =
    let is_none = rw c.in_default.is at c.in_ok-piece.ensures.none in
    let is_all = rw c.in_default.is at c.in_ok-piece.ensures.all in
    let is = c.loop-piece.invariant in
    let setting : Setting = record { asked = c.args.extensions; known = g.L.Labels.known c.args.labels.now } in
    let text = c.args.text.now in
    let reading = reading_of text c.loop-piece.buffers.reader in
    let inlines = c.loop-piece.buffers.inlines.items in
    let pieces = pieces_of inlines in
    let from = c.loop-piece.offset in
    let only : HasOnlyText c.args.extensions text from (length text) =
    subst (λ (s : ReadText). HasOnlyText s.asked s.text s.offset (length s.text)) is.0 is_none in
    let last = is_all
    ∙ ap (λ (s : ReadText). record s {
      offset = length s.text;
      searched = text_searched s.text s.offset (length s.text - s.offset) s.searched;
    }) is.0 in
    let all = c.push_text-2.new.inlines.items in
    let pushed : pieces_of all ≡ pieces ++ text_between from (length text) =
    ap pieces_of c.in_ok-push_text-2.ensures ∙ pieces_text inlines from (length text) in
    let is_written = text_step reading.links reading.openers inlines from (length text) is.1 is.7 in
    record {
      cut = record {
        last = reading;
        read = subst (λ (l : List Piece). AreRead setting 0 (at_start text) l reading) (sym pushed)
            (is.2 (text_between from (length text)) reading (read_out setting from reading is.1 only));
        links_are = c.in_ok-finish.ensures.links;
        emphasis_is = c.in_ok-finish.ensures.emphasis;
      };
      written = subst (λ ls. all ≡ written ls (pieces_of all)) (sym c.in_ok-finish.ensures.links)
          (subst (λ (l : List Inline). l ≡ written reading.links (pieces_of l)) (sym c.in_ok-push_text-2.ensures) is_written.are);
      runs = is.8 ∙ sym (ap have_runs pushed ∙ runs_text pieces from (length text));
      sources = subst (λ (l : List Piece). AreSources text l (length text)) (sym pushed)
          (text_added text pieces from (length text) is.3 is.1 is.4 (IsCharBoundary-end text));
      links = subst (AreLinkSources text) (sym c.in_ok-finish.ensures.links) is.6.links;
      passed = c.passed-buffers.ensures.value ∙ ap bytes_passed (ap (λ (s : ReadText). s.searched) last
          ∙ (last_joined text pieces from (length text) (unsearched text)
          ∙ ap (λ (l : List Piece). pieces_searched text l (unsearched text)) (sym pushed)));
      budget = subst (λ t. c.passed-buffers.result ≤ 10 * length t) (ap (λ (s : ReadText). s.text) last) c.passed-buffers.ensures.budget;
    }
