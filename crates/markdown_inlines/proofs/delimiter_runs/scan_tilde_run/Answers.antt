use Rattle.std.proofs.Common.{arith, ap, ◌∙◌, refl}
use Rattle.markdown_inlines.specs.DelimiterRuns.{char_before, is_left_flanking}
use Rattle.markdown_inlines.proofs.delimiter_runs.DelimiterRunLemmas.{counted_from, ends_there, some_there}
use Rattle.markdown_inlines.proofs.delimiter_runs.scan_tilde_run.Goals as goal

pub sides-before-requires-clause-ends : goal.sides-before-requires-clause-ends
sides-before-requires-clause-ends c =
    ends_there c.as_bytes.result.now c.args.text.now c.args.offset 126 c.scan_ch_repeat-count.result c.as_bytes.ensures.value c.requires.within
    c.requires.opens c.scan_ch_repeat-count.ensures.run (omega arith) c.utf8.text c.scan_ch_repeat-count.ensures.within

pub returns : goal.returns
returns c =
    let text = c.args.text.now in
    let offset = c.args.offset in
    let count = c.scan_ch_repeat-count.result in
    let before = c.sides-before.ensures.before in
    let after = c.sides-before.ensures.after in
    record {
      found = record {
        delimiter = refl;
        some = some_there c.as_bytes.result.now text offset 126 count c.as_bytes.ensures.value c.requires.within c.requires.opens
            c.scan_ch_repeat-count.ensures.run;
        longest = counted_from c.as_bytes.result.now text offset 126 count c.as_bytes.ensures.value c.scan_ch_repeat-count.ensures.run;
        opens = c.is_left_flanking.ensures ∙ ap (λ b. is_left_flanking b c.sides-before.result.1) before
            ∙ ap (is_left_flanking (char_before text offset)) after;
        closes = c.is_left_flanking-2.ensures ∙ ap (is_left_flanking c.sides-before.result.1) before
            ∙ ap (λ a. is_left_flanking a (char_before text offset)) after;
      };
    }
