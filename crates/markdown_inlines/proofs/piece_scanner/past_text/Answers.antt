use Rattle.std.proofs.Common.{◌≡◌, ◌+◌, ◌-◌, ◌∙◌, arith, ap, sym, drop}
use Rattle.markdown_scanners_tree.proofs.PrefixLemmas.{from_offset}
use Rattle.markdown_inlines.specs.PieceBytes.{run_length}
use Rattle.markdown_inlines.specs.Searches.{text_searched}
use Rattle.markdown_inlines.proofs.pieces.TextRuns.{passed_apart, passed_text, plain_bytes}
use Rattle.markdown_inlines.proofs.searches.SearchLemmas.{parts_joined, quiet}
use Rattle.markdown_inlines.proofs.piece_scanner.past_text.Goals as goal

pub returns-clause-text : goal.returns-clause-text
returns-clause-text c =
    passed_text c.args.bytes.now c.args.offset c.run_len.result c.plain_len.result c.requires.within c.run_len.ensures.run
    c.run_len.ensures.within.0 c.plain_len.ensures.count

pub returns-clause-apart : goal.returns-clause-apart
returns-clause-apart c =
    passed_apart c.args.bytes.now c.args.offset c.run_len.result c.plain_len.result c.requires.within c.run_len.ensures.run
    c.run_len.ensures.within.0 c.plain_len.ensures.count

pub returns-clause-unsearched : goal.returns-clause-unsearched
returns-clause-unsearched c = λ before.
    let bytes = c.args.bytes.now in
    let offset = c.args.offset in
    let run = c.run_len.result in
    let plain = c.plain_len.result in
    let counted : run ≡ run_length (drop offset bytes) = c.run_len.ensures.run ∙ ap run_length (from_offset bytes offset) in
    let all : offset + run + plain - offset ≡ run + plain = omega arith in
    ap (λ n. text_searched bytes offset n before) all
    ∙ (sym (parts_joined bytes run plain offset before)
    ∙ (quiet bytes plain (offset + run) (text_searched bytes offset run before) (plain_bytes bytes (offset + run) plain c.plain_len.ensures.count)
    ∙ ap (λ n. text_searched bytes offset n before) counted))

pub returns-clause-past_run : goal.returns-clause-past_run
returns-clause-past_run c =
    let counted = c.run_len.ensures.run ∙ ap run_length (from_offset c.args.bytes.now c.args.offset) in omega (arith, counted)
