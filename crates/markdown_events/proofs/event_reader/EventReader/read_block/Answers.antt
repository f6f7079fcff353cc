use Rattle.std.proofs.Common.{refl}
use Rattle.std.proofs.lemmas.Result.{on_ok_weaker}
use Rattle.markdown_events.proofs.page.ParserLemmas.{given_start, given_leaf, given_end}
use Rattle.markdown_events.proofs.event_reader.EventReader.read_block.Goals as goal

pub returns-in-Some-Start-clause-same : goal.returns-in-Some-Start-clause-same
returns-in-Some-Start-clause-same g c =
    let next = rw (c.in-Some-Start.is, c.in-Some-Start.field-0-is) at c.next_block.ensures.next in
    on_ok_weaker c.read_start.result (λ read events h. given_start _ _ _ _ _ events c.requires.waiting next (rw read at h)) c.read_start.ensures.read

pub returns-in-Some-Block-clause-same : goal.returns-in-Some-Block-clause-same
returns-in-Some-Block-clause-same g c =
    let next = rw (c.in-Some-Block.is, c.in-Some-Block.field-0-is) at c.next_block.ensures.next in
    on_ok_weaker c.read_leaf.result (λ read events h. given_leaf _ _ _ read.0 _ events c.requires.waiting next read.1 (rw read.2 at h)) c.read_leaf.ensures.read

pub returns-in-Some-End-clause-same : goal.returns-in-Some-End-clause-same
returns-in-Some-End-clause-same g c =
    let next = rw (c.in-Some-End.is, c.in-Some-End.field-0-is) at c.next_block.ensures.next in
    on_ok_weaker c.read_end.result (λ read events h. given_end _ _ _ events c.requires.waiting next (rw read at h)) c.read_end.ensures.read

pub read_start-requires-clause-next : goal.read_start-requires-clause-next
read_start-requires-clause-next g c = rw (c.in-Some-Start.is, c.in-Some-Start.field-0-is) at c.next_block.ensures.next

pub read_leaf-requires : goal.read_leaf-requires
read_leaf-requires g c κs =
    let next = rw (c.in-Some-Block.is, c.in-Some-Block.field-0-is) at c.next_block.ensures.next in
    ((refl, tt), (c.requires.waiting, next))

pub read_end-requires-clause-next : goal.read_end-requires-clause-next
read_end-requires-clause-next g c = rw (c.in-Some-End.is, c.in-Some-End.field-0-is) at c.next_block.ensures.next
