use Rattle.std.proofs.Common.{[], ap, ◌∙◌, arith}
use Rattle.markdown_blocks.specs.containers.Containers.{OpenContainers, match_line, rest_at}
use Rattle.markdown_blocks.proofs.taken.TakenLemmas.{first_within, taken-next}
use Rattle.markdown_blocks.proofs.block_events.first_rest.Goals as goal

pub returns-clause-rest : goal.returns-clause-rest
returns-clause-rest c =
    let parts = (c.nothing.ensures c.args.lines.now).parts ∙ c.in-Some.ensures.line.parts in
    rw parts (c.scan_rest-rest.ensures.rest
    ∙ ap rest_at (c.go_on-start.ensures.state ∙ ap (λ (o : OpenContainers). (match_line o.containers c.in-Some.line.now).state) c.new.ensures))

pub returns-clause-within : goal.returns-clause-within
returns-clause-within c =
    let one = taken-next c.args.lines.now c.nothing.result c.in-Some.field-0-1 [] c.in-Some.line.now (c.nothing.ensures c.args.lines.now)
    c.in-Some.ensures.line in
    omega (arith, c.saturating_sub-before.ensures, first_within c.args.lines.now c.in-Some.field-0-1 c.in-Some.line.now [] one, one.within)
