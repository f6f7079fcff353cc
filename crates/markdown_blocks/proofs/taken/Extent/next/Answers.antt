use Rattle.std.proofs.Common.{length, take, drop, ◌-◌, refl, arith}
use Rattle.markdown_blocks.proofs.taken.TakenLemmas.{next_line, slice_after}
use Rattle.markdown_blocks.proofs.taken.Extent.next.Goals as goal

pub returns-clause-line : goal.returns-clause-line
returns-clause-line c =
    next_line c.args.text.now c.args.self _ c.scan_line-length.result
    (take (length c.args.text.now - c.args.self.bytes) (drop c.args.self.bytes c.args.text.now))
    (slice_after c.args.text.now c.args.self.bytes) (omega (arith, c.if-self-text.false)) c.scan_line-length.ensures.line
    c.scan_line-length.ensures.within c.scan_line-length.ensures.rises refl refl
