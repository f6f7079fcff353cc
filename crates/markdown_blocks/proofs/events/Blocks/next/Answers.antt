use Rattle.std.proofs.lemmas.Option.{IfSome_then}
use Rattle.markdown_blocks.proofs.events.Blocks.next.Goals.{then-is_none+in_ok-read_block, else-is_none}
use Rattle.markdown_blocks.proofs.events.Blocks.next.Goals as goal

pub returns-clause-event : goal.returns-clause-event
returns-clause-event c = elim c.if-is_none.branch [
  | then-is_none+in_ok-read_block w ↦
      IfSome_then c.take_event.result c.take_event.ensures.event
      (λ event gives events g. w.in_ok-read_block.ensures.same _ (rw (← w.self-is) (gives events g)))
  | else-is_none w ↦
      IfSome_then c.take_event.result c.take_event.ensures.event (λ event gives events g. rw (← w.self-is) (gives events g))
]
