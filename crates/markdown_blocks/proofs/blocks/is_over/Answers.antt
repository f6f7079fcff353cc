use Rattle.markdown_blocks.proofs.blocks.OverLemmas.{over_given, seen_given}
use Rattle.markdown_blocks.proofs.blocks.is_over.Goals as goal

pub returns-in-Indented : goal.returns-in-Indented
returns-in-Indented c = λ lines h.
    let s = c.take_until-blanks.ensures lines h in
    over_given c.args.outer.now c.args.has_ended c.if-has_ended.false c.args.block.kind _ c.is_some.result
    (rw c.in-Indented.is (seen_given c.args.outer.now c.args.text.now c.args.block.taken c.take_until-blanks.result lines s.0 h s.1 s.2 c.next.result
    c.is_some.result c.is_some.ensures c.next.ensures.line c.next.ensures.none))
