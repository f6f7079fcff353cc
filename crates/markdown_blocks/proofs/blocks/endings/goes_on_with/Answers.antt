use Rattle.markdown_blocks.specs.blocks.Leaves.{EndsRead}
use Rattle.markdown_blocks.proofs.blocks.RestLemmas.{goes_inside, goes_outside}
use Rattle.markdown_blocks.proofs.blocks.endings.goes_on_with.Goals as goal

pub returns-in-Some : goal.returns-in-Some
returns-in-Some c =
    let outer = c.args.line.now.outer in
    goes_inside outer c.args.line.now.bytes c.in-Some.rest.now c.in-Some.ensures.rest c.in-Some.ensures.inside
    (EndsRead outer.extensions c.args.is_term) c.ends_read.result (rw (c.extensions.ensures, c.outer.ensures) at c.ends_read.ensures)

pub returns-in-None : goal.returns-in-None
returns-in-None c =
    let outer = c.args.line.now.outer in
    goes_outside outer c.args.line.now.bytes c.in-None.ensures.none (EndsRead outer.extensions c.args.is_term) c.is_lazy.result c.is_lazy.ensures
