use Rattle.std.proofs.Common.{◌≡◌, ◌+◌, ◌-◌, ◌≤◌, ◌∙◌, ap, refl, sym, subst, arith, length, take, drop, get_or, ℕ}
use Rattle.markdown_inlines.specs.PieceBytes.{plain_length, run_length}
use Rattle.markdown_inlines.specs.Pieces.{BeginsAt, HasOnlyText}
use Rattle.markdown_inlines.specs.Searches.{IsSearchedTo, Searched, kind_searched, text_searched}
use Rattle.markdown_inlines.specs.declared.pieces.PieceKind.{PieceKind}
use Rattle.markdown_inlines.proofs.line_breaks.LineBreakLemmas.{rest_within}
use Rattle.markdown_inlines.proofs.pieces.PieceEnds.{IsPart, piece_part, starts_cut}
use Rattle.markdown_inlines.proofs.pieces.TextRuns.{plain_apart, plain_bytes, plain_text}
use Rattle.markdown_inlines.proofs.searches.SearchLemmas.{parts_between, quiet, searched_later}
use Rattle.markdown_inlines.proofs.piece_scanner.next_piece.Goals as goal

pub loop-offset-init : goal.loop-offset-init
loop-offset-init c =
    let text = c.args.text.now in
    let from = c.args.from in
    let n = c.plain_len.result in
    let same = c.as_bytes-bytes.ensures.value in
    let counted = subst (λ t. n ≡ plain_length (take (length t - from) (drop from t))) same c.plain_len.ensures.count in
    let fits = subst (λ t. n ≤ length (take (length t - from) (drop from t))) same c.plain_len.ensures.within in
    let before = c.args.searches.now in
    let count : from + n - from ≡ n = omega arith in (
      omega arith,
      rest_within text from n c.requires.within fits,
      plain_text text from n counted c.args.extensions,
      λ at later. plain_apart text from n counted (omega (arith, later)),
      c.requires.same,
      searched_later from (from + n) before (omega arith) c.requires.searched,
      sym (ap (λ k. text_searched text from k before) count ∙ quiet text n from before (plain_bytes text from n counted)),
    )

part : (c : goal.In-Some) → IsPart c.args.text.now c.loop-offset.offset c.in-Some.len
part c =
    let found = rw c.in-Some.is at c.in_ok-found.ensures.found in
    piece_part c.args.extensions c.args.text.now c.args.from c.loop-offset.offset c.in-Some.kind c.in-Some.len c.loop-offset.invariant.1
    (found c.args.from c.loop-offset.invariant.3)

pub overflow_add-result : goal.overflow_add-result
overflow_add-result c = let is = part c in omega (arith, is.within, ap length c.as_bytes-bytes.ensures.value)

pub returns-in-Some-clause-within : goal.returns-in-Some-clause-within
returns-in-Some-clause-within c = let is = part c in (omega (arith, is.some), is.within)

pub returns-in-Some-clause-boundary : goal.returns-in-Some-clause-boundary
returns-in-Some-clause-boundary c =
    let found = rw c.in-Some.is at c.in_ok-found.ensures.found in
    let is = part c in (
      starts_cut c.args.extensions c.args.text.now c.args.from c.loop-offset.offset c.in-Some.kind c.in-Some.len
          (found c.args.from c.loop-offset.invariant.3) c.loop-offset.invariant.1,
      is.cut c.utf8.text,
    )

pub returns-in-Some-clause-found : goal.returns-in-Some-clause-found
returns-in-Some-clause-found c = let found = rw c.in-Some.is at c.in_ok-found.ensures.found in record {
  len = c.in-Some.len;
  later = c.loop-offset.invariant.0;
  only_text = c.loop-offset.invariant.2;
  begins = found c.args.from c.loop-offset.invariant.3;
  ends = refl;
}

pub returns-in-Some-clause-counts : goal.returns-in-Some-clause-counts
returns-in-Some-clause-counts c =
    let counts = rw c.in-Some.is at c.in_ok-found.ensures.counts in
    counts ∙ ap (kind_searched c.in-Some.kind c.args.text.now c.loop-offset.offset (c.loop-offset.offset + c.in-Some.len)) c.loop-offset.invariant.6

pub returns-in-Some-clause-text : goal.returns-in-Some-clause-text
returns-in-Some-clause-text c = c.in_ok-found.ensures.text ∙ (c.loop-offset.invariant.4 ∙ sym c.requires.same)

pub returns-in-Some-clause-searched : goal.returns-in-Some-clause-searched
returns-in-Some-clause-searched c =
    let is = part c in
    let stays = rw c.in-Some.is at c.in_ok-found.ensures.stays in
    stays (c.loop-offset.offset + c.in-Some.len) (omega (arith, is.some)) (omega arith) tt

pub returns-clause-counts_text : goal.returns-clause-counts_text
returns-clause-counts_text c =
    let same : c.loop-offset.offset ≡ length c.args.text.now =
    omega (arith, c.loop-offset.invariant.1, c.loop-offset-test.false, ap length c.as_bytes-bytes.ensures.value) in
    c.loop-offset.invariant.6 ∙ ap (λ k. text_searched c.args.text.now c.args.from (k - c.args.from) c.args.searches.now) same

pub returns-clause-text : goal.returns-clause-text
returns-clause-text c = c.loop-offset.invariant.4 ∙ sym c.requires.same

pub returns-clause-searched_all : goal.returns-clause-searched_all
returns-clause-searched_all c =
    let same : c.loop-offset.offset ≡ length c.args.text.now =
    omega (arith, c.loop-offset.invariant.1, c.loop-offset-test.false, ap length c.as_bytes-bytes.ensures.value) in
    subst (λ k. IsSearchedTo k c.loop-offset.searches) same c.loop-offset.invariant.5

pub loop-offset-preserved : goal.loop-offset-preserved
loop-offset-preserved c =
    let none = rw c.in_default.is at c.in_ok-found.ensures.found in
    let stays = rw c.in_default.is at c.in_ok-found.ensures.stays in
    let counts = rw c.in_default.is at c.in_ok-found.ensures.counts_text in
    let from = c.args.from in
    let offset = c.loop-offset.offset in
    let next = c.past_text-offset.result in
    let same = c.as_bytes-bytes.ensures.value in
    let given = c.past_text-offset.ensures in
    let text = c.args.text.now in
    let past_run = subst (λ t. offset + run_length (drop offset t) ≤ next) same given.past_run in
    let unsearched = subst (λ t. (s : Searched) → text_searched t offset (next - offset) s ≡ text_searched t offset (run_length (drop offset t)) s) same
    given.unsearched in
    let only = subst (λ t. (from ≤ offset) → HasOnlyText c.args.extensions t from offset
    → ((kind : PieceKind) (len : ℕ) → ¬ BeginsAt c.args.extensions t from offset kind len) → HasOnlyText c.args.extensions t from next) same
    (given.text c.args.extensions from) in (
      omega (arith, given.later, c.loop-offset.invariant.0),
      subst (λ t. next ≤ length t) same given.within,
      only c.loop-offset.invariant.0 c.loop-offset.invariant.2
          (λ kind len. none from c.loop-offset.invariant.3 (kind, len)),
      λ at later before. subst (λ t. get_or t next 0 ≡ 96 → get_or t (next - 1) 0 ≡ 96 → ⊥) same given.apart at before,
      c.in_ok-found.ensures.text ∙ c.loop-offset.invariant.4,
      stays next given.later tt past_run,
      counts
          ∙ (sym (unsearched c.loop-offset.searches)
          ∙ (ap (text_searched text offset (next - offset)) c.loop-offset.invariant.6
          ∙ parts_between text from offset next c.args.searches.now c.loop-offset.invariant.0 (omega (arith, given.later)))),
    )
