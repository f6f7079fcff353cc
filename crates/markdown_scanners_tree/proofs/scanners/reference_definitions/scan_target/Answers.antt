use Rattle.std.proofs.Common.{ℕ, List, ◌+◌, ap, arith}
use Rattle.std.specs.Str.{IsCharBoundary}
use Rattle.markdown_scanners_tree.proofs.PrefixLemmas.{from_offset}
use Rattle.markdown_scanners_tree.proofs.SomeExactlyLemmas.{SomeExactly-from_none}
use Rattle.markdown_scanners_tree.proofs.scanners.links.LinkLemmas.{offset_of_rest}
use Rattle.markdown_scanners_tree.proofs.scanners.reference_definitions.DefinitionLemmas.{no_target, target_found}
use Rattle.markdown_scanners_tree.proofs.scanners.reference_definitions.scan_target.Goals as goal

pub returns-in_err-named-clause-found : goal.returns-in_err-named-clause-found
returns-in_err-named-clause-found c =
    SomeExactly-from_none _ c.from_residual.ensures (λ t is. c.in_err-named.ensures.found is.named is.is_named)

pub returns-in_err-taken-clause-found : goal.returns-in_err-taken-clause-found
returns-in_err-taken-clause-found c =
    SomeExactly-from_none _ c.from_residual-in_err-taken.ensures (λ t.
    no_target (c.args.max_next + 1) c.args.bytes.now c.in_ok-named.named c.gap_len.result c.in_ok-named.ensures.found
    c.gap_len.ensures.gap (λ n raw is some. c.in_err-taken.ensures.found (n, raw) is) t.label t.destination t.offset)

pub returns-then-taken-eq0-clause-found : goal.returns-then-taken-eq0-clause-found
returns-then-taken-eq0-clause-found c = λ t.
    no_target (c.args.max_next + 1) c.args.bytes.now c.in_ok-named.named c.gap_len.result c.in_ok-named.ensures.found
    c.gap_len.ensures.gap
    (λ n raw is some. (let same = ap (λ (r : ℕ × List ℕ). r.0) (c.in_ok-taken.ensures.only (n, raw) is) in
    omega (arith, some, same, c.if-taken-eq0.true)))
    t.label t.destination t.offset

pub returns-clause-found : goal.returns-clause-found
returns-clause-found c =
    let taken = c.in_ok-taken.ensures in
    target_found (c.args.max_next + 1) c.args.bytes.now c.in_ok-named.named c.gap_len.result c.in_ok-named.ensures.found
    c.gap_len.ensures.gap c.in_ok-taken.taken c.in_ok-taken.raw.start c.in_ok-taken.raw.end taken.found taken.raw_text.inside
    taken.raw_text.within (omega (arith, c.if-taken-eq0.false)) c.gap_len.ensures.within c.in_ok-named.ensures.within.0

pub returns-clause-label_cut : goal.returns-clause-label_cut
returns-clause-label_cut c = λ utf8. (c.in_ok-named.ensures.begins utf8, c.in_ok-named.ensures.ends utf8)

pub returns-clause-destination_cut : goal.returns-clause-destination_cut
returns-clause-destination_cut c = λ utf8.
    let bytes = c.args.bytes.now in
    let named = c.in_ok-named.named in
    let gap = c.gap_len.result in
    let here : IsCharBoundary bytes (named + gap) =
    offset_of_rest _ bytes named gap (from_offset bytes named) utf8 (λ _. c.in_ok-named.ensures.after utf8)
    c.gap_len.ensures.after in (
      offset_of_rest _ bytes (named + gap) c.in_ok-taken.raw.start (from_offset bytes (named + gap)) utf8 (λ _. here)
          c.in_ok-taken.ensures.raw_text.begins,
      offset_of_rest _ bytes (named + gap) c.in_ok-taken.raw.end (from_offset bytes (named + gap)) utf8 (λ _. here)
          c.in_ok-taken.ensures.raw_text.ends,
    )

pub returns-clause-after : goal.returns-clause-after
returns-clause-after c = λ utf8.
    let bytes = c.args.bytes.now in
    let named = c.in_ok-named.named in
    let gap = c.gap_len.result in
    let here : IsCharBoundary bytes (named + gap) =
    offset_of_rest _ bytes named gap (from_offset bytes named) utf8 (λ _. c.in_ok-named.ensures.after utf8)
    c.gap_len.ensures.after in
    offset_of_rest _ bytes (named + gap) c.in_ok-taken.taken (from_offset bytes (named + gap)) utf8 (λ _. here)
    c.in_ok-taken.ensures.raw_text.after
