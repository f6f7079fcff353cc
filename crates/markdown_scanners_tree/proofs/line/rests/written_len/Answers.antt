use Rattle.std.proofs.Common.{◌≡◌, ◌+◌, drop, length, get_or, false, sym, ap, ◌∙◌, arith}
use Rattle.std.proofs.lemmas.List.{length-append}
use Rattle.markdown_scanners_tree.specs.Bytes.{is_line_ending}
use Rattle.markdown_scanners_tree.specs.Columns.{column_after, written_byte, written_out}
use Rattle.markdown_scanners_tree.proofs.line.RestLemmas.{written_next}
use Rattle.markdown_scanners_tree.proofs.line.rests.written_len.Goals as goal

pub loop-index-preserved : goal.loop-index-preserved
loop-index-preserved c =
    let bytes = c.args.bytes.now in
    let i = c.loop-index.index in
    let column = c.loop-index.column in
    let b = get_or bytes i 0 in
    let goes : is_line_ending b ≡ false = sym c.is_line_ending.ensures ∙ c.if-is_line_ending.false in
    let step = ap length (written_next bytes i column c.loop-index-test.true goes) in
    let joined = length-append (written_byte column b) (written_out (column_after column b) (drop (i + 1) bytes)) in
    let wide = c.width_at.ensures in
    rw wide.column (
      omega (arith, c.loop-index.invariant.0, step, joined, wide.column, wide.written),
      omega (arith, c.loop-index.invariant.1, wide.column),
      omega (arith, c.loop-index.invariant.2, wide.column, wide.within),
    )
