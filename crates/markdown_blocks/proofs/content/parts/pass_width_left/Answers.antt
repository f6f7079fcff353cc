use Rattle.std.proofs.Common.{arith}
use Rattle.markdown_blocks.proofs.content.parts.PlaceLemmas.{spent_after}
use Rattle.markdown_blocks.proofs.content.parts.pass_width_left.Goals as goal

pub returns-then-remaining_space-eq0-clause-spent : goal.returns-then-remaining_space-eq0-clause-spent
returns-then-remaining_space-eq0-clause-spent c = λ given inner.
    spent_after c.args.width c.args.start.now c.scan_space_upto.new.self c.scan_space_upto.ensures.state
    (omega (arith, c.remaining_space.ensures.pending, c.if-remaining_space-eq0.true)) (c.is_at_eol.ensures.answer.0 given) inner
