use Rattle.std.proofs.Common.{ℕ, List, ◌+◌, ap, arith}
use Rattle.std.specs.Str.{IsCharBoundary}
use Rattle.markdown_scanners_tree.proofs.ForCallers.{offset_of_rest}
use Rattle.markdown_scanners_tree.proofs.PrefixLemmas.{from_offset}
use Rattle.markdown_scanners_tree.proofs.SomeExactlyLemmas.{SomeExactly-from_none}
use Rattle.markdown_inlines.proofs.link_tails.LinkTailLemmas.{opened, cut_opened, no_filled, no_filled_end, filled_found}
use Rattle.markdown_inlines.proofs.link_tails.LinkTailLemmas.{title_cut}
use Rattle.markdown_inlines.proofs.link_tails.scan_filled.Goals as goal

pub returns-in_err-taken-clause-found : goal.returns-in_err-taken-clause-found
returns-in_err-taken-clause-found c =
    SomeExactly-from_none _ c.from_residual.ensures (λ tail.
    no_filled (c.args.max_next + 1) c.args.bytes.now c.gap_len-start.result (opened c.args.bytes.now c.requires.opens)
    c.gap_len-start.ensures.gap (λ n raw is some. c.in_err-taken.ensures.found (n, raw) is) tail)

pub returns-then-taken-eq0-clause-found : goal.returns-then-taken-eq0-clause-found
returns-then-taken-eq0-clause-found c = λ tail.
    no_filled (c.args.max_next + 1) c.args.bytes.now c.gap_len-start.result (opened c.args.bytes.now c.requires.opens)
    c.gap_len-start.ensures.gap
    (λ n raw is some. (let same = ap (λ (r : ℕ × List ℕ). r.0) (c.in_ok-taken.ensures.only (n, raw) is) in
    omega (arith, some, same, c.if-taken-eq0.true)))
    tail

pub returns-in_err-title-clause-found : goal.returns-in_err-title-clause-found
returns-in_err-title-clause-found c =
    SomeExactly-from_none _ c.from_residual-in_err-title.ensures (λ tail.
    no_filled_end (c.args.max_next + 1) c.args.bytes.now c.gap_len-start.result (opened c.args.bytes.now c.requires.opens)
    c.gap_len-start.ensures.gap c.in_ok-taken.taken
    (λ n raw is. ap (λ (r : ℕ × List ℕ). r.0) (c.in_ok-taken.ensures.only (n, raw) is))
    (λ title len is. c.in_err-title.ensures.found (title, len) is) tail)

pub returns-clause-found : goal.returns-clause-found
returns-clause-found c =
    let taken = c.in_ok-taken.ensures in
    filled_found (c.args.max_next + 1) c.args.bytes.now c.gap_len-start.result (opened c.args.bytes.now c.requires.opens)
    c.gap_len-start.ensures.gap c.in_ok-taken.taken c.in_ok-taken.raw.start c.in_ok-taken.raw.end c.in_ok-title.title
    c.in_ok-title.len taken.found taken.raw_text.inside taken.raw_text.within (omega (arith, c.if-taken-eq0.false)) c.gap_len-start.ensures.within
    c.in_ok-title.ensures.found

pub returns-clause-destination_cut : goal.returns-clause-destination_cut
returns-clause-destination_cut c = λ utf8.
    let bytes = c.args.bytes.now in
    let start = 1 + c.gap_len-start.result in
    let here : IsCharBoundary bytes start =
    offset_of_rest _ bytes 1 c.gap_len-start.result (from_offset bytes 1) utf8 (λ _. cut_opened bytes c.requires.opens utf8) c.gap_len-start.ensures.after in (
      offset_of_rest _ bytes start c.in_ok-taken.raw.start (from_offset bytes start) utf8 (λ _. here) c.in_ok-taken.ensures.raw_text.begins,
      offset_of_rest _ bytes start c.in_ok-taken.raw.end (from_offset bytes start) utf8 (λ _. here) c.in_ok-taken.ensures.raw_text.ends,
    )

pub returns-clause-title_cut : goal.returns-clause-title_cut
returns-clause-title_cut c =
    let bytes = c.args.bytes.now in
    let start = 1 + c.gap_len-start.result in
    title_cut bytes (start + c.in_ok-taken.taken) c.in_ok-title.title c.in_ok-title.ensures.title_cut (λ utf8.
    let here : IsCharBoundary bytes start =
    offset_of_rest _ bytes 1 c.gap_len-start.result (from_offset bytes 1) utf8 (λ _. cut_opened bytes c.requires.opens utf8) c.gap_len-start.ensures.after in
    offset_of_rest _ bytes start c.in_ok-taken.taken (from_offset bytes start) utf8 (λ _. here) c.in_ok-taken.ensures.raw_text.after)

pub returns-clause-after : goal.returns-clause-after
returns-clause-after c = λ utf8.
    let bytes = c.args.bytes.now in
    let start = 1 + c.gap_len-start.result in
    let here : IsCharBoundary bytes start =
    offset_of_rest _ bytes 1 c.gap_len-start.result (from_offset bytes 1) utf8 (λ _. cut_opened bytes c.requires.opens utf8) c.gap_len-start.ensures.after in
    c.in_ok-title.ensures.after utf8
    (offset_of_rest _ bytes start c.in_ok-taken.taken (from_offset bytes start) utf8 (λ _. here) c.in_ok-taken.ensures.raw_text.after)
