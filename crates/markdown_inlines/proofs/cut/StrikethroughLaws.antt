-- Nothing is struck through unless it is asked for.
use Rattle.std.proofs.Common.{ℕ, zero, suc, List, [], ◌∷◌, ◌++◌, ◌≡◌, ◌∙◌, inl, inr, take, drop, arith, refl, sym, subst, Option, IsTrue}
use Rattle.std.specs.List.{AllByRecursion}
use Rattle.markdown_scanners_tree.specs.Ascii.{tilde}
use Rattle.markdown_inlines.specs.DelimiterRuns.{IsRunOf}
use Rattle.markdown_inlines.specs.Emphasis.{emphasis_of}
use Rattle.markdown_inlines.specs.EmphasisLaws.{IsMade}
use Rattle.markdown_inlines.specs.InlineLaws.{HasNoStrikethrough}
use Rattle.markdown_inlines.specs.Inlines.{Setting, Reading, at_start, with_piece, with_link, IsClosed, AreRead, IsCut}
use Rattle.markdown_inlines.specs.Pieces.{BeginsAt}
use Rattle.markdown_inlines.specs.declared.delimiter_runs.DelimiterRun.{DelimiterRun}
use Rattle.markdown_inlines.specs.declared.emphasis.Delimiters.{Delimiters}
use Rattle.markdown_inlines.specs.declared.emphasis.Emphasis.{Emphasis}
use Rattle.markdown_inlines.specs.declared.links.Link.{Link}
use Rattle.markdown_inlines.specs.declared.pieces.Piece.{Piece}
use Rattle.markdown_inlines.specs.declared.pieces.PieceKind.{PieceKind}
use Rattle.markdown_inlines.specs.declared.pieces.PieceKind.TheVariants as K
use Rattle.markdown_inlines.specs.declared.reading.Opener.{Opener}
use Rattle.markdown_inlines.proofs.cut.OneCut.{ReadAs, read_as}
use Rattle.markdown_inlines.proofs.emphasis.MadeLemmas.{emphasis_is_made}
use Rattle.markdown_inlines.proofs.emphasis.NestLemmas.{all_at, all_both, all_of}

all_take : {X : Type 0} (P : X → Type 0) (n : ℕ) (xs : List X) → AllByRecursion P xs → AllByRecursion P (take n xs)
all_take P zero xs all = tt
all_take P (suc n) [] all = tt
all_take P (suc n) (x ∷ xs) all = (all.0, all_take P n xs all.1)

all_drop : {X : Type 0} (P : X → Type 0) (n : ℕ) (xs : List X) → AllByRecursion P xs → AllByRecursion P (drop n xs)
all_drop P zero xs all = all
all_drop P (suc n) [] all = tt
all_drop P (suc n) (x ∷ xs) all = all_drop P n xs all.1

abbrev IsPlain : Delimiters → Type 0
IsPlain run = ¬ (run.run.byte ≡ tilde)

abbrev IsNoStrikethrough : Emphasis → Type 0
IsNoStrikethrough emphasis = ¬ (emphasis.byte ≡ tilde)

-- without runs of tildes none is struck through
plain_emphasis : (runs : List Delimiters) → AllByRecursion IsPlain runs → HasNoStrikethrough (emphasis_of runs)
plain_emphasis runs plain = all_of (IsMade runs) IsNoStrikethrough each (emphasis_of runs) (emphasis_is_made runs)
  where
    each : (emphasis : Emphasis) → IsMade runs emphasis → IsNoStrikethrough emphasis
    each emphasis made is =
        let all = subst (AllByRecursion IsPlain) made.runs_are plain in
        all_at IsPlain (made.before ++ made.opener ∷ made.between) made.closer made.later all (sym made.byte_is ∙ is)

record Holds (reading : Reading) : Type 0 where
  runs : AllByRecursion IsPlain reading.runs
  emphasis : HasNoStrikethrough reading.emphasis

module _ (setting : Setting) (none : ¬ IsTrue setting.asked.strikethrough) where
  plain_run : (text : List ℕ) (offset : ℕ) (run : DelimiterRun) → IsRunOf setting.asked text offset run → ¬ (run.byte ≡ tilde)
  plain_run text offset run (inl is) there = elim is.delimiter [
    | inl star ↦ omega (arith, star, there)
    | inr line ↦ omega (arith, line, there)
  ]
  plain_run text offset run (inr is) there = none is.0

  with_piece_holds : (piece : Piece) (reading : Reading) → Holds reading → (kind : PieceKind) (len : ℕ)
      → BeginsAt setting.asked reading.text piece.start piece.start kind len → Holds (with_piece kind piece reading)
  with_piece_holds piece reading holds K.Text len begins = holds
  with_piece_holds piece reading holds K.Escape len begins = holds
  with_piece_holds piece reading holds K.HardBreak len begins = holds
  with_piece_holds piece reading holds K.SoftBreak len begins = holds
  with_piece_holds piece reading holds K.Reference len begins = holds
  with_piece_holds piece reading holds (K.Code backticks) len begins = holds
  with_piece_holds piece reading holds K.Uri len begins = holds
  with_piece_holds piece reading holds K.Email len begins = holds
  with_piece_holds piece reading holds K.Html len begins = holds
  with_piece_holds piece reading holds (K.Delimiters run) len begins = record {
    runs = all_both IsPlain reading.runs _ holds.runs (plain_run reading.text piece.start run begins.0, tt);
    emphasis = holds.emphasis;
  }
  with_piece_holds piece reading holds K.LinkOpener len begins = record { runs = holds.runs; emphasis = holds.emphasis }
  with_piece_holds piece reading holds K.ImageOpener len begins = record { runs = holds.runs; emphasis = holds.emphasis }
  with_piece_holds piece reading holds K.Closer len begins = holds

  link_holds : (link : Link) (opener : Opener) (outer : List Opener) (reading : Reading) → Holds reading → Holds (with_link link opener outer reading)
  link_holds link opener outer reading holds = record {
    runs = all_take IsPlain opener.runs reading.runs holds.runs;
    emphasis = all_both IsNoStrikethrough reading.emphasis (emphasis_of (drop opener.runs reading.runs)) holds.emphasis
        (plain_emphasis (drop opener.runs reading.runs) (all_drop IsPlain opener.runs reading.runs holds.runs));
  }

  closed_holds : (openers : List Opener) (reading next : Reading) (close end : ℕ) → Holds reading
      → IsClosed setting.known openers reading close end next → Holds next
  closed_holds [] reading next close end holds is = subst Holds (sym is.1) holds
  closed_holds (opener ∷ outer) reading next close end holds (inl is) =
      subst Holds (sym is.next_is) (link_holds is.link opener outer reading holds)
  closed_holds (opener ∷ outer) reading next close end holds (inr is) =
      subst Holds (sym is.next_is) (record { runs = holds.runs; emphasis = holds.emphasis })

  read_holds : (reading : Reading) (piece : Piece) (next : Reading) → ReadAs setting reading piece next → Holds reading → Holds next
  read_holds reading piece next (inl is) holds = subst Holds (sym is.next_is) holds
  read_holds reading piece next (inr (inl is)) holds = closed_holds reading.openers reading next piece.start piece.end holds is.closed
  read_holds reading piece next (inr (inr is)) holds =
      subst Holds (sym is.next_is) (with_piece_holds piece reading holds piece.kind is.at.len is.at.begins)

  all_hold : (offset : ℕ) (reading : Reading) (pieces : List Piece) (last : Reading) → AreRead setting offset reading pieces last → Holds reading
      → Holds last
  all_hold offset reading [] last is holds = subst Holds (sym is.1) holds
  all_hold offset reading (piece ∷ later) last is holds =
      all_hold piece.end is.1 later last is.3
      (read_holds reading piece is.1 (read_as setting reading piece is.1 piece.kind refl is.2) holds)

  -- in a text where strikethrough is not asked for nothing is struck through
  pub none_struck_unasked : (text : List ℕ) (pieces : List Piece) (links : List (Option Link)) (emphasis : List Emphasis)
      → IsCut text setting pieces links emphasis → HasNoStrikethrough emphasis
  none_struck_unasked text pieces links emphasis is =
      let holds = all_hold 0 (at_start text) pieces is.last is.read (record { runs = tt; emphasis = tt }) in
      subst HasNoStrikethrough (sym is.emphasis_is)
      (all_both IsNoStrikethrough is.last.emphasis (emphasis_of is.last.runs) holds.emphasis (plain_emphasis is.last.runs holds.runs))
