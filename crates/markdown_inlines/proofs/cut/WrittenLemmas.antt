-- What is written while a text is read is its inlines, once the starts of links and the emphasis are put in.
use Rattle.std.proofs.Common.{ℕ, zero, suc, Bool, true, false, ◌||◌, ◌==◌, List, [], ◌∷◌, ◌++◌, ◌≡◌, ◌≢◌, ◌≤◌, ◌<◌, ◌∙◌, inl, inr}
use Rattle.std.proofs.Common.{arith, refl, sym, ap, subst, length, take, drop, get_or, nat_lt, Option, Some, None, if◌then◌else◌, slice_set}
use Rattle.std.specs.List.{All, AllByRecursion, flat_map}
use Rattle.std.proofs.lemmas.List.{append-nil, map-append, take_all}
use Rattle.std.proofs.lemmas.List.Elements.{All-cons, All-head, All-tail}
use Rattle.std.proofs.lemmas.List.Folds.{list_any-append}
use Rattle.std.proofs.lemmas.List.{get_or-set_other}
use Rattle.std.proofs.lemmas.Bool.{eq-eqb, eqb-true, ne_eqb, ltb-true}
use Rattle.std.proofs.Math.ListN.{get_or-eq_default}
use Rattle.markdown_inlines.specs.Inlines.{Setting, Reading, with_opener, with_link, IsClosed, IsRead, text_between}
use Rattle.markdown_inlines.specs.Links.{Known}
use Rattle.markdown_inlines.specs.Marks.{ends_at, ends_link}
use Rattle.markdown_inlines.specs.Output.{begins_link, counted, inlines_at, inlines_from}
use Rattle.markdown_inlines.specs.Readings.{AreFree, AreOpen, IsKept}
use Rattle.markdown_inlines.specs.Written.{AreWritten, IsWithin, counted_in, have_runs, is_run, piece_of, pieces_of, spread, started, started_as}
use Rattle.markdown_inlines.specs.Written.{with_starts, written, written_as}
use Rattle.markdown_inlines.specs.declared.emphasis.Emphasis.{Emphasis}
use Rattle.markdown_inlines.specs.declared.inlines.Inline.{Inline}
use Rattle.markdown_inlines.specs.declared.inlines.Inline.TheVariants as I
use Rattle.markdown_inlines.specs.declared.links.Link.{Link}
use Rattle.markdown_inlines.specs.declared.pieces.Piece.{Piece}
use Rattle.markdown_inlines.specs.declared.pieces.PieceKind.{PieceKind}
use Rattle.markdown_inlines.specs.declared.pieces.PieceKind.TheVariants as K
use Rattle.markdown_inlines.specs.declared.reading.Opener.{Opener}

-- ---- the inlines of the pieces

module _ (links : List (Option Link)) (emphasis : List Emphasis) where
  opener_whole : (test : Bool) (number : ℕ) (piece : Piece) (kind : spread emphasis (I.Leaf piece) ≡ I.Leaf piece ∷ [])
      → spread emphasis (if test then I.StartLink number else I.Leaf piece) ≡ (if test then I.StartLink number else I.Leaf piece) ∷ []
  opener_whole true number piece kind = refl
  opener_whole false number piece kind = kind

  closer_whole : (test : Bool) (number start end : ℕ) →
      spread emphasis (started links number (if test then I.EndLink (record { kind = K.Closer; start = start; end = end })
      else I.Leaf (record { kind = K.Closer; start = start; end = end })))
      ≡ (if test then I.EndLink (record { kind = K.Closer; start = start; end = end })
      else I.Leaf (record { kind = K.Closer; start = start; end = end })) ∷ []
  closer_whole true number start end = refl
  closer_whole false number start end = refl

  closer_started : (test : Bool) (number start end : ℕ) →
      started links number (if test then I.EndLink (record { kind = K.Closer; start = start; end = end })
      else I.Leaf (record { kind = K.Closer; start = start; end = end }))
      ≡ (if test then I.EndLink (record { kind = K.Closer; start = start; end = end })
      else I.Leaf (record { kind = K.Closer; start = start; end = end }))
  closer_started true number start end = refl
  closer_started false number start end = refl

  abbrev at : PieceKind → ℕ → ℕ → Piece
  at kind start end = record { kind = kind; start = start; end = end }

  one_spread : (kind : PieceKind) (number start end : ℕ)
      → spread emphasis (started links number (written_as kind links (at kind start end)))
      ≡ inlines_at kind links emphasis number (at kind start end)
  one_spread K.Text number start end = refl
  one_spread K.Escape number start end = refl
  one_spread K.HardBreak number start end = refl
  one_spread K.SoftBreak number start end = refl
  one_spread K.Reference number start end = refl
  one_spread (K.Code backticks) number start end = refl
  one_spread K.Uri number start end = refl
  one_spread K.Email number start end = refl
  one_spread K.Html number start end = refl
  one_spread (K.Delimiters run) number start end = refl
  one_spread K.LinkOpener number start end = opener_whole (begins_link links number) number (at K.LinkOpener start end) refl
  one_spread K.ImageOpener number start end = opener_whole (begins_link links number) number (at K.ImageOpener start end) refl
  one_spread K.Closer number start end = closer_whole (ends_link links start) number start end

  one_whole : (kind : PieceKind) (number start end : ℕ) → is_run kind ≡ false
      → started links number (written_as kind links (at kind start end)) ∷ [] ≡ inlines_at kind links emphasis number (at kind start end)
  one_whole K.Text number start end none = refl
  one_whole K.Escape number start end none = refl
  one_whole K.HardBreak number start end none = refl
  one_whole K.SoftBreak number start end none = refl
  one_whole K.Reference number start end none = refl
  one_whole (K.Code backticks) number start end none = refl
  one_whole K.Uri number start end none = refl
  one_whole K.Email number start end none = refl
  one_whole K.Html number start end none = refl
  one_whole (K.Delimiters run) number start end none = (let bad : true ≡ false = none in cc)
  one_whole K.LinkOpener number start end none = refl
  one_whole K.ImageOpener number start end none = refl
  one_whole K.Closer number start end none =
      ap (λ (i : Inline). i ∷ []) (closer_started (ends_link links start) number start end)

  counts : (kind : PieceKind) (number start end : ℕ) → counted_in (written_as kind links (at kind start end)) number ≡ counted kind number
  counts K.Text number start end = refl
  counts K.Escape number start end = refl
  counts K.HardBreak number start end = refl
  counts K.SoftBreak number start end = refl
  counts K.Reference number start end = refl
  counts (K.Code backticks) number start end = refl
  counts K.Uri number start end = refl
  counts K.Email number start end = refl
  counts K.Html number start end = refl
  counts (K.Delimiters run) number start end = refl
  counts K.LinkOpener number start end = refl
  counts K.ImageOpener number start end = refl
  counts K.Closer number start end = by (ends_link links start)
    where
      by : (test : Bool) → counted_in (if test then I.EndLink (at K.Closer start end) else I.Leaf (at K.Closer start end)) number ≡ number
      by true = refl
      by false = refl

  -- with the starts of links and the delimiters they are the inlines of the pieces
  all_spread : (pieces : List Piece) (number : ℕ)
      → flat_map (spread emphasis) (with_starts links number (written links pieces)) ≡ inlines_from links emphasis number pieces
  all_spread [] number = refl
  all_spread (piece ∷ later) number =
      ap (λ n. spread emphasis (started links number (written_as piece.kind links piece))
      ++ flat_map (spread emphasis) (with_starts links n (written links later))) (counts piece.kind number piece.start piece.end)
      ∙ (ap (λ (l : List Inline). l ++ flat_map (spread emphasis) (with_starts links (counted piece.kind number) (written links later)))
      (one_spread piece.kind number piece.start piece.end)
      ∙ ap (λ (l : List Inline). inlines_at piece.kind links emphasis number piece ++ l) (all_spread later (counted piece.kind number)))

  -- so they are with the starts alone where no delimiter runs stand
  pub all_whole : (pieces : List Piece) (number : ℕ) → have_runs pieces ≡ false
      → with_starts links number (written links pieces) ≡ inlines_from links emphasis number pieces
  all_whole [] number none = refl
  all_whole (piece ∷ later) number none =
      let both = neither (is_run piece.kind) (have_runs later) none in
      ap (λ n. started links number (written_as piece.kind links piece) ∷ with_starts links n (written links later))
      (counts piece.kind number piece.start piece.end)
      ∙ (ap (λ (l : List Inline). l ++ with_starts links (counted piece.kind number) (written links later))
      (one_whole piece.kind number piece.start piece.end both.0)
      ∙ ap (λ (l : List Inline). inlines_at piece.kind links emphasis number piece ++ l) (all_whole later (counted piece.kind number) both.1))
    where
      neither : (a b : Bool) → (a || b) ≡ false → (a ≡ false) × (b ≡ false)
      neither true b is = (let bad : true ≡ false = is in cc)
      neither false b is = (refl, is)

-- the same, where the emphasis and the inlines are also known by other names
pub all_put : (links : List (Option Link)) (emphasis emphasis' : List Emphasis) (pieces : List Piece) (inlines all : List Inline)
    → emphasis' ≡ emphasis → inlines ≡ with_starts links 0 (written links pieces) → all ≡ flat_map (spread emphasis') inlines
    → all ≡ inlines_from links emphasis 0 pieces
all_put links emphasis emphasis' pieces inlines all same are put =
    put ∙ (ap (λ (e : List Emphasis). flat_map (spread e) inlines) same
    ∙ (ap (flat_map (spread emphasis)) are ∙ all_spread links emphasis pieces 0))

-- ---- what has been written while a text is read

piece_back : (kind : PieceKind) (links : List (Option Link)) (piece : Piece) → piece_of (written_as kind links piece) ≡ piece
piece_back K.Text links piece = refl
piece_back K.Escape links piece = refl
piece_back K.HardBreak links piece = refl
piece_back K.SoftBreak links piece = refl
piece_back K.Reference links piece = refl
piece_back (K.Code backticks) links piece = refl
piece_back K.Uri links piece = refl
piece_back K.Email links piece = refl
piece_back K.Html links piece = refl
piece_back (K.Delimiters run) links piece = refl
piece_back K.LinkOpener links piece = refl
piece_back K.ImageOpener links piece = refl
piece_back K.Closer links piece = by (ends_link links piece.start)
  where
    by : (test : Bool) → piece_of (if test then I.EndLink piece else I.Leaf piece) ≡ piece
    by true = refl
    by false = refl

-- the pieces with one more
pub pieces_more : (inlines : List Inline) (kind : PieceKind) (links : List (Option Link)) (piece : Piece)
    → pieces_of (inlines ++ written_as kind links piece ∷ []) ≡ pieces_of inlines ++ piece ∷ []
pieces_more inlines kind links piece =
    map-append piece_of inlines (written_as kind links piece ∷ [])
    ∙ ap (λ p. pieces_of inlines ++ p ∷ []) (piece_back kind links piece)

-- and with the text before it
pub pieces_text : (inlines : List Inline) (from to : ℕ)
    → pieces_of (inlines ++ written [] (text_between from to)) ≡ pieces_of inlines ++ text_between from to
pieces_text inlines from to = map-append piece_of inlines (written [] (text_between from to)) ∙ ap (λ l. pieces_of inlines ++ l) (by (nat_lt from to))
  where
    text : Piece
    text = record { kind = K.Text; start = from; end = to }

    by : (test : Bool) → pieces_of (written [] (if test then text ∷ [] else [])) ≡ (if test then text ∷ [] else [])
    by true = refl
    by false = refl

-- one more piece is a run, or one was before it; text is no run
pub runs_text : (pieces : List Piece) (from to : ℕ) → have_runs (pieces ++ text_between from to) ≡ have_runs pieces
runs_text pieces from to =
    list_any-append (λ (p : Piece). is_run p.kind) pieces (text_between from to) ∙ by (have_runs pieces) (nat_lt from to)
  where
    by : (before test : Bool)
        → (before || have_runs (if test then record { kind = K.Text; start = from; end = to } ∷ [] else [])) ≡ before
    by true test = refl
    by false true = refl
    by false false = refl

pub runs_more : (pieces : List Piece) (from to : ℕ) (piece : Piece)
    → have_runs ((pieces ++ text_between from to) ++ piece ∷ []) ≡ (have_runs pieces || is_run piece.kind)
runs_more pieces from to piece =
    list_any-append (λ (p : Piece). is_run p.kind) (pieces ++ text_between from to) (piece ∷ [])
    ∙ (ap (λ b. b || (is_run piece.kind || false)) (runs_text pieces from to) ∙ ap (λ b. have_runs pieces || b) (by (is_run piece.kind)))
  where
    by : (test : Bool) → (test || false) ≡ test
    by true = refl
    by false = refl

-- ---- links that end

unended : (links : List (Option Link)) (k : ℕ) → ends_link (links ++ None ∷ []) k ≡ ends_link links k
unended links k = list_any-append (ends_at k) links (None ∷ []) ∙ by (ends_link links k)
  where
    by : (test : Bool) → (test || false) ≡ test
    by true = refl
    by false = refl

-- another link ends where its link text does
ended_more : (links : List (Option Link)) (n k : ℕ) (link : Link) → n < length links → get_or links n None ≡ None
    → ends_link (slice_set links n (Some link)) k ≡ (k == link.text.end || ends_link links k)
ended_more [] n k link inside none = absurd (omega (arith, inside))
ended_more (x ∷ links) zero k link inside none =
    ap (λ (o : Option Link). k == link.text.end || (ends_at k o || ends_link links k)) (sym none)
ended_more (x ∷ links) (suc n) k link inside none =
    ap (λ b. ends_at k x || b) (ended_more links n k link (omega (arith, inside)) none) ∙ by (ends_at k x) (k == link.text.end) (ends_link links k)
  where
    by : (a b c : Bool) → (a || (b || c)) ≡ (b || (a || c))
    by true true c = refl
    by true false c = refl
    by false b c = refl

ended_other : (links : List (Option Link)) (n k : ℕ) (link : Link) → n < length links → get_or links n None ≡ None → k ≢ link.text.end
    → ends_link (slice_set links n (Some link)) k ≡ ends_link links k
ended_other links n k link inside none other =
    ended_more links n k link inside none ∙ ap (λ b. b || ends_link links k) (ne_eqb k link.text.end other)

-- it ends there
pub ended_there : (links : List (Option Link)) (n : ℕ) (link : Link) → n < length links → get_or links n None ≡ None
    → ends_link (slice_set links n (Some link)) link.text.end ≡ true
ended_there links n link inside none =
    ended_more links n link.text.end link inside none ∙ ap (λ b. b || ends_link links link.text.end) (eq-eqb link.text.end link.text.end refl)

-- what was written stays as it is where links change later alone
same_written : (links links' : List (Option Link)) (inlines : List Inline) (s : ℕ)
    → AllByRecursion (λ (inline : Inline). (piece_of inline).start < s) inlines
    → ((k : ℕ) → k < s → ends_link links' k ≡ ends_link links k)
    → written links' (pieces_of inlines) ≡ written links (pieces_of inlines)
same_written links links' [] s before same = refl
same_written links links' (inline ∷ later) s before same =
    ap (λ (l : List Inline). written_as (piece_of inline).kind links' (piece_of inline) ∷ l) (same_written links links' later s before.1 same)
    ∙ ap (λ (i : Inline). i ∷ written links (pieces_of later)) (by (piece_of inline).kind (piece_of inline) (same (piece_of inline).start before.0))
  where
    by : (kind : PieceKind) (piece : Piece) → ends_link links' piece.start ≡ ends_link links piece.start
        → written_as kind links' piece ≡ written_as kind links piece
    by K.Text piece is = refl
    by K.Escape piece is = refl
    by K.HardBreak piece is = refl
    by K.SoftBreak piece is = refl
    by K.Reference piece is = refl
    by (K.Code backticks) piece is = refl
    by K.Uri piece is = refl
    by K.Email piece is = refl
    by K.Html piece is = refl
    by (K.Delimiters run) piece is = refl
    by K.LinkOpener piece is = refl
    by K.ImageOpener piece is = refl
    by K.Closer piece is = ap (λ b. if b then I.EndLink piece else I.Leaf piece) is

-- ---- openers that begin no link

get_added : (links : List (Option Link)) (n : ℕ) → get_or (links ++ None ∷ []) n None ≡ get_or links n None
get_added [] zero = refl
get_added [] (suc n) = refl
get_added (x ∷ links) zero = refl
get_added (x ∷ links) (suc n) = get_added links n

free_added : (links : List (Option Link)) (openers : List Opener)
    → AreFree links openers
    → AreFree (links ++ None ∷ []) openers
free_added links [] free = tt
free_added links (opener ∷ outer) free = (get_added links opener.number ∙ free.0, free_added links outer free.1)

free_set : (text : List ℕ) (links : List (Option Link)) (openers : List Opener) (runs bound n : ℕ) (link : Option Link) → bound ≤ n
    → AreOpen text openers runs bound → AreFree links openers
    → AreFree (slice_set links n link) openers
free_set text links [] runs bound n link few are free = tt
free_set text links (opener ∷ outer) runs bound n link few are free = (
  get_or-set_other links n opener.number link None (λ same. omega (arith, same, few, are.1)) ∙ free.0,
  free_set text links outer opener.runs opener.number n link (omega (arith, few, are.1)) are.3 free.1,
)

-- ---- one piece more

abbrev StandBefore : ℕ → List Inline → Type 0
StandBefore s inlines = AllByRecursion (λ (inline : Inline). (piece_of inline).start < s) inlines

before_added : (inlines more : List Inline) (s s' : ℕ) → s ≤ s' → StandBefore s inlines → StandBefore s' more
    → StandBefore s' (inlines ++ more)
before_added [] more s s' later before new = new
before_added (inline ∷ inlines) more s s' later before new =
    (omega (arith, before.0, later), before_added inlines more s s' later before.1 new)

pub start_written : AreWritten [] [] [] 0
start_written = record { are = refl; ended = λ k later. refl; free = tt; before = tt }

-- the text before a piece
pub text_step : (links : List (Option Link)) (openers : List Opener) (inlines : List Inline) (from to : ℕ) → from ≤ to
    → AreWritten links openers inlines from → AreWritten links openers (inlines ++ written [] (text_between from to)) to
text_step links openers inlines from to later is = record {
  are = ap (λ (l : List Inline). l ++ written [] (text_between from to)) is.are
      ∙ (ap (λ (l : List Inline). written links (pieces_of inlines) ++ l) (by (nat_lt from to))
      ∙ (sym (map-append (λ (p : Piece). written_as p.kind links p) (pieces_of inlines) (text_between from to))
      ∙ ap (written links) (sym (pieces_text inlines from to))));
  ended = λ k after. is.ended k (omega (arith, after, later));
  free = is.free;
  before = before_added inlines _ from to later is.before (new (nat_lt from to) refl);
}
  where
    text : Piece
    text = record { kind = K.Text; start = from; end = to }

    by : (test : Bool) → written [] (if test then text ∷ [] else []) ≡ written links (if test then text ∷ [] else [])
    by true = refl
    by false = refl

    new : (test : Bool) → nat_lt from to ≡ test → StandBefore to (written [] (if test then text ∷ [] else []))
    new true some = (ltb-true from to some, tt)
    new false none = tt

module _ (reading : Reading) (piece : Piece) (inlines : List Inline) (some : piece.start < piece.end) (kept : IsKept reading)
    (is : AreWritten reading.links reading.openers inlines piece.start) where
  abbrev With : Reading → Type 0
  With r = AreWritten r.links r.openers (inlines ++ written_as piece.kind r.links piece ∷ []) piece.end

  grown : (links : List (Option Link)) (openers : List Opener) → ((k : ℕ) → k < piece.start → ends_link links k ≡ ends_link reading.links k)
      → ((k : ℕ) → piece.end ≤ k → ends_link links k ≡ false) → AreFree links openers
      → AreWritten links openers (inlines ++ written_as piece.kind links piece ∷ []) piece.end
  grown links openers same ended free = record {
    are = ap (λ (l : List Inline). l ++ written_as piece.kind links piece ∷ [])
        (is.are ∙ sym (same_written reading.links links inlines piece.start is.before same))
        ∙ (sym (map-append (λ (p : Piece). written_as p.kind links p) (pieces_of inlines) (piece ∷ []))
        ∙ ap (written links) (sym (pieces_more inlines piece.kind links piece)));
    ended = ended;
    free = free;
    before = before_added inlines (written_as piece.kind links piece ∷ []) piece.start piece.end (omega (arith, some)) is.before
        (subst (λ (p : Piece). p.start < piece.end) (sym (piece_back piece.kind links piece)) some, tt);
  }

  after : (k : ℕ) → piece.end ≤ k → ends_link reading.links k ≡ false
  after k later = is.ended k (omega (arith, later, some))

  stays : (next : Reading) → next ≡ reading → With next
  stays next same = subst With (sym same) (grown reading.links reading.openers (λ k before. refl) after is.free)

  opened : (is_image : Bool) (next : Reading) → next ≡ with_opener is_image piece reading → With next
  opened is_image next same =
      subst With (sym same)
      (grown (reading.links ++ None ∷ []) (with_opener is_image piece reading).openers (λ k before. unended reading.links k)
      (λ k later. unended reading.links k ∙ after k later) (
        get_added reading.links (length reading.links) ∙ get_or-eq_default reading.links None (omega arith),
        free_added reading.links reading.openers is.free,
      ))

  closed : (known : Known) (openers : List Opener) (next : Reading) → reading.openers ≡ openers
      → IsClosed known openers reading piece.start piece.end next → With next
  closed known [] next are how = stays next how.1
  closed known (opener ∷ outer) next are (inl link) =
      let stands = subst (λ o. AreOpen reading.text o (length reading.runs) (length reading.links)) are kept.openers in
      let free = subst (AreFree reading.links) are is.free in
      let there = link.is_link.text_ends in
      subst With (sym link.next_is)
      (grown (slice_set reading.links opener.number (Some link.link)) outer
      (λ k before. ended_other reading.links opener.number k link.link stands.1 free.0 (λ same. omega (arith, same, there, before)))
      (λ k later. ended_other reading.links opener.number k link.link stands.1 free.0 (λ same. omega (arith, same, there, later, some))
      ∙ after k later)
      (free_set reading.text reading.links outer opener.runs opener.number opener.number (Some link.link) (omega arith) stands.3 free.1))
  closed known (opener ∷ outer) next are (inr none) =
      let free = subst (AreFree reading.links) are is.free in
      subst With (sym none.next_is) (grown reading.links outer (λ k before. refl) after free.1)

  -- what has been written with a piece that is read
  pub piece_step : (setting : Setting) (next : Reading) (kind : PieceKind) → IsRead kind setting reading piece next → With next
  piece_step setting next K.Text how = stays next how.1
  piece_step setting next K.Escape how = stays next how.1
  piece_step setting next K.HardBreak how = stays next how.1
  piece_step setting next K.SoftBreak how = stays next how.1
  piece_step setting next K.Reference how = stays next how.1
  piece_step setting next (K.Code backticks) how = stays next how.1
  piece_step setting next K.Uri how = stays next how.1
  piece_step setting next K.Email how = stays next how.1
  piece_step setting next K.Html how = stays next how.1
  piece_step setting next (K.Delimiters run) how =
      subst With (sym how.1) (grown reading.links reading.openers (λ k before. refl) after is.free)
  piece_step setting next K.LinkOpener how = opened false next how.1
  piece_step setting next K.ImageOpener how = opened true next how.1
  piece_step setting next K.Closer how = closed setting.known reading.openers next refl how.1

-- ---- the starts of links

-- where one more inline has its start
pub start_put : (links : List (Option Link)) (number i : ℕ) (inlines : List Inline) (default : Inline) → i < length inlines
    → take (suc i) (slice_set inlines i (started links number (get_or inlines i default)))
    ++ with_starts links (counted_in (get_or inlines i default) number)
    (drop (suc i) (slice_set inlines i (started links number (get_or inlines i default))))
    ≡ take i inlines ++ with_starts links number (drop i inlines)
start_put links number i [] default inside = absurd (omega (arith, inside))
start_put links number zero (inline ∷ later) default inside = refl
start_put links number (suc i) (inline ∷ later) default inside =
    ap (λ (l : List Inline). inline ∷ l) (start_put links number i later default (omega (arith, inside)))

-- no link begins where there is none
pub no_starts : (number : ℕ) (inlines : List Inline) → with_starts [] number inlines ≡ inlines
no_starts number [] = refl
no_starts number (inline ∷ later) =
    ap (λ (i : Inline). i ∷ with_starts [] (counted_in inline number) later) (one inline)
    ∙ ap (λ (l : List Inline). inline ∷ l) (no_starts (counted_in inline number) later)
  where
    leaf : (kind : PieceKind) (start end : ℕ) → started_as kind [] number (record { kind = kind; start = start; end = end })
        ≡ I.Leaf (record { kind = kind; start = start; end = end })
    leaf K.Text start end = refl
    leaf K.Escape start end = refl
    leaf K.HardBreak start end = refl
    leaf K.SoftBreak start end = refl
    leaf K.Reference start end = refl
    leaf (K.Code backticks) start end = refl
    leaf K.Uri start end = refl
    leaf K.Email start end = refl
    leaf K.Html start end = refl
    leaf (K.Delimiters run) start end = refl
    leaf K.LinkOpener start end = refl
    leaf K.ImageOpener start end = refl
    leaf K.Closer start end = refl

    one : (inline : Inline) → started [] number inline ≡ inline
    one (I.Leaf piece) = leaf piece.kind piece.start piece.end
    one (I.StartEmphasis s count) = refl
    one (I.EndEmphasis s count) = refl
    one (I.StartStrikethrough s count) = refl
    one (I.EndStrikethrough s count) = refl
    one (I.StartLink n) = refl
    one (I.EndLink piece) = refl

pub no_starts_of_none : (links : List (Option Link)) (inlines : List Inline) → (length links == 0) ≡ true
    → inlines ≡ with_starts links 0 inlines
no_starts_of_none [] inlines none = sym (no_starts 0 inlines)
no_starts_of_none (x ∷ links) inlines none = absurd (omega (arith, eqb-true (length (x ∷ links)) 0 none))

starts_length : (links : List (Option Link)) (number : ℕ) (inlines : List Inline) → length (with_starts links number inlines) ≡ length inlines
starts_length links number [] = refl
starts_length links number (inline ∷ later) = ap suc (starts_length links (counted_in inline number) later)

-- all of them are put in where as many stood; the links and the inlines are also known by other names
pub starts_put : (links links' : List (Option Link)) (old old' new : List Inline) (len : ℕ) → links' ≡ links → old' ≡ old
    → new ≡ with_starts links' 0 old' → len ≡ length old → take len (new ++ drop (length new) old) ≡ with_starts links 0 old
starts_put links links' old old' new len same_links same put all =
    ap (λ n. take len (new ++ drop n old)) as_many
    ∙ (ap (λ (l : List Inline). take len (new ++ l)) (none old)
    ∙ (ap (take len) (append-nil new) ∙ (take_all len new (omega (arith, as_many, all)) ∙ started)))
  where
    started : new ≡ with_starts links 0 old
    started = put ∙ (ap (λ ls. with_starts ls 0 old') same_links ∙ ap (with_starts links 0) same)

    as_many : length new ≡ length old
    as_many = ap length started ∙ starts_length links 0 old

    none : (l : List Inline) → drop (length l) l ≡ []
    none [] = refl
    none (x ∷ xs) = none xs

-- they stand within the text
pub starts_within : (links : List (Option Link)) (len number : ℕ) (pieces : List Piece)
    → All (λ (piece : Piece). (piece.start < piece.end) × (piece.end ≤ len)) pieces
    → All (IsWithin len) (with_starts links number (written links pieces))
starts_within links len number [] all = λ k d inside. absurd (omega (arith, inside))
starts_within links len number (piece ∷ later) all =
    All-cons (IsWithin len) _ _ (one piece.kind piece.start piece.end (All-head Stands piece later all))
    (starts_within links len (counted_in (written_as piece.kind links piece) number) later (All-tail Stands piece later all))
  where
    Stands : Piece → Type 0
    Stands p = (p.start < p.end) × (p.end ≤ len)

    at' : PieceKind → ℕ → ℕ → Piece
    at' kind start end = record { kind = kind; start = start; end = end }

    opener : (test : Bool) (p : Piece) → Stands p → IsWithin len (if test then I.StartLink number else I.Leaf p)
    opener true p is = tt
    opener false p is = is

    closer : (test : Bool) (p : Piece) → Stands p → p.kind ≡ K.Closer
        → IsWithin len (started links number (if test then I.EndLink p else I.Leaf p))
    closer true p is kind = tt
    closer false p is kind =
        subst (λ k. IsWithin len (started_as k links number p)) (sym kind) is

    one : (kind : PieceKind) (start end : ℕ) → Stands (at' kind start end)
        → IsWithin len (started links number (written_as kind links (at' kind start end)))
    one K.Text start end is = is
    one K.Escape start end is = is
    one K.HardBreak start end is = is
    one K.SoftBreak start end is = is
    one K.Reference start end is = is
    one (K.Code backticks) start end is = is
    one K.Uri start end is = is
    one K.Email start end is = is
    one K.Html start end is = is
    one (K.Delimiters run) start end is = is
    one K.LinkOpener start end is = opener (begins_link links number) (at' K.LinkOpener start end) is
    one K.ImageOpener start end is = opener (begins_link links number) (at' K.ImageOpener start end) is
    one K.Closer start end is = closer (ends_link links start) (at' K.Closer start end) is refl

-- ---- one inline after another

pub spread_step : (show : Inline → List Inline) (inlines : List Inline) (i n : ℕ) (default : Inline) → n ≡ suc i → i < length inlines
    → flat_map show (drop i inlines) ≡ show (get_or inlines i default) ++ flat_map show (drop n inlines)
spread_step show inlines i n default next inside =
    subst (λ m. flat_map show (drop i inlines) ≡ show (get_or inlines i default) ++ flat_map show (drop m inlines)) (sym next)
    (by inlines i inside)
  where
    by : (all : List Inline) (k : ℕ) → k < length all
        → flat_map show (drop k all) ≡ show (get_or all k default) ++ flat_map show (drop (suc k) all)
    by [] k within = absurd (omega (arith, within))
    by (x ∷ xs) zero within = refl
    by (x ∷ xs) (suc k) within = by xs k (omega (arith, within))

pub spread_done : (show : Inline → List Inline) (inlines out : List Inline) (i : ℕ) → length inlines ≤ i
    → out ++ flat_map show (drop i inlines) ≡ out
spread_done show [] out zero none = append-nil out
spread_done show [] out (suc i) none = append-nil out
spread_done show (x ∷ xs) out zero none = absurd (omega (arith, none))
spread_done show (x ∷ xs) out (suc i) none = spread_done show xs out i (omega (arith, none))

pub pieces_step : (inlines : List Inline) (i n : ℕ) (default : Inline) → n ≡ suc i → i < length inlines
    → pieces_of (drop i inlines) ≡ piece_of (get_or inlines i default) ∷ pieces_of (drop n inlines)
pieces_step inlines i n default next inside =
    subst (λ m. pieces_of (drop i inlines) ≡ piece_of (get_or inlines i default) ∷ pieces_of (drop m inlines)) (sym next) (by inlines i inside)
  where
    by : (all : List Inline) (k : ℕ) → k < length all
        → pieces_of (drop k all) ≡ piece_of (get_or all k default) ∷ pieces_of (drop (suc k) all)
    by [] k within = absurd (omega (arith, within))
    by (x ∷ xs) zero within = refl
    by (x ∷ xs) (suc k) within = by xs k (omega (arith, within))

-- ---- a right bracket

-- it ends a link where the link of its opener is put in
pub ends_with : (old new last : Reading) (opener : Opener) (link : Link) → old ≡ record new { openers = opener ∷ new.openers } → IsKept old
    → AreFree old.links old.openers → last ≡ with_link link opener new.openers new → ends_link last.links link.text.end ≡ true
ends_with old new last opener link popped kept free next =
    let stands = (subst IsKept popped kept).openers in
    let none = subst (λ (r : Reading). AreFree r.links r.openers) popped free in
    subst (λ (r : Reading). ends_link r.links link.text.end ≡ true) (sym next) (ended_there new.links opener.number link stands.1 none.0)
