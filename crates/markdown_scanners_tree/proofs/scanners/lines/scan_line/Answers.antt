use Rattle.std.proofs.Common.{◌+◌, ◌<◌, ap, ◌∙◌, sym, subst}
use Rattle.std.specs.Prelude.{unwrap_or}
use Rattle.markdown_scanners_tree.specs.Bytes.{line_ending}
use Rattle.markdown_scanners_tree.proofs.PrefixLemmas.{from_offset}
use Rattle.markdown_scanners_tree.proofs.scanners.lines.LineLemmas.{line_length-by_head, line_length-rises}
use Rattle.markdown_scanners_tree.proofs.scanners.lines.scan_line.Goals as goal

pub returns-clause-line : goal.returns-clause-line
returns-clause-line c =
    let bytes = c.args.bytes.now in
    let end = c.head_len-end.result in
    let ending = c.scan_eol.ensures.ending ∙ ap line_ending (from_offset bytes end) in
    ap (λ n. end + n) (c.unwrap_or.ensures ∙ ap (λ found. unwrap_or found 0) ending)
    ∙ sym (line_length-by_head bytes end (sym c.head_len-end.ensures.head))

pub returns-clause-rises : goal.returns-clause-rises
returns-clause-rises c = λ some.
    subst (λ n. 0 < n) (sym (returns-clause-line c)) (line_length-rises c.args.bytes.now some)
