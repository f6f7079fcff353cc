use Rattle.std.proofs.Common.{◌≡◌, ap, sym, ◌∙◌, arith, drop, true, false}
use Rattle.std.proofs.lemmas.List.{drop_all, take_rest}
use Rattle.markdown_blocks.specs.cells.Contents.{escapes_pipe}
use Rattle.markdown_blocks.proofs.content.cell.EscapeLemmas.{escape_here, escape_on}
use Rattle.markdown_blocks.proofs.content.cell.escape_at.Goals as goal

pub loop-len-preserved : goal.loop-len-preserved
loop-len-preserved c =
    let l = c.loop-len in
    let given : escapes_pipe (drop l.len c.args.bytes.now) ≡ false =
    ap escapes_pipe (sym (take_rest c.args.bytes.now l.len)) ∙ sym c.escapes_pipe.ensures ∙ c.if-escapes_pipe.false in (
      omega (arith, c.loop-len-test.true),
      omega (arith, l.invariant.1, escape_on c.args.bytes.now l.len c.loop-len-test.true given),
    )

pub returns-then-escapes_pipe-clause-length : goal.returns-then-escapes_pipe-clause-length
returns-then-escapes_pipe-clause-length c =
    let l = c.loop-len in
    let given : escapes_pipe (drop l.len c.args.bytes.now) ≡ true =
    ap escapes_pipe (sym (take_rest c.args.bytes.now l.len)) ∙ sym c.escapes_pipe.ensures ∙ c.if-escapes_pipe.true in
    omega (arith, l.invariant.1, escape_here c.args.bytes.now l.len c.loop-len-test.true given)

pub returns-clause-length : goal.returns-clause-length
returns-clause-length c =
    let l = c.loop-len in
    let none = drop_all l.len c.args.bytes.now c.loop-len-test.false in
    let all = rw none at l.invariant.1 in omega (arith, all)
