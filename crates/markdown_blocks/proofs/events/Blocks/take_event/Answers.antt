use Rattle.std.proofs.Common.{◌-◌, drop, refl, sym, ◌∙◌, arith}
use Rattle.std.proofs.lemmas.Option.{IfSome_then}
use Rattle.markdown_blocks.specs.events.Events.{seen_event}
use Rattle.markdown_blocks.proofs.events.EventLemmas.{block_event, last_event, end_event, no_event}
use Rattle.markdown_blocks.proofs.events.Blocks.take_event.Goals as goal

pub returns-then-self-eq0-clause-none : goal.returns-then-self-eq0-clause-none
returns-then-self-eq0-clause-none c =
    let b = c.self.inside in
    let none = sym c.take.ensures.value ∙ c.in_default.is in
    let last = (rw (← c.self.view_is, none) at c.requires) refl in
    rw (← c.self.view_is, none) (no_event (drop b.before.bytes b.page.now) b.walk.extensions b.walk.containers b.walk.term b.walk.paragraph b.before.lines b.before.bytes b.begun
    (omega (arith, c.if-self-eq0.true)) last)

pub returns-in_default-clause-event : goal.returns-in_default-clause-event
returns-in_default-clause-event c = λ events g.
    let b = c.self.inside in
    let none = sym c.take.ensures.value ∙ c.in_default.is in
    let last = (rw (← c.self.view_is, none) at c.requires) refl in
    rw (← c.self.view_is, none) (end_event (drop b.before.bytes b.page.now) b.walk.extensions b.walk.containers b.walk.term b.walk.paragraph b.before.lines
    b.before.bytes b.begun
    (b.begun - 1)
    (omega (arith, c.if-self-eq0.false)) last events (rw c.take.ensures.after at g))

pub returns-then-is_done-clause-event : goal.returns-then-is_done-clause-event
returns-then-is_done-clause-event c =
    let b = c.self.inside in
    let some = sym c.take.ensures.value ∙ c.in-Some.is in
    let same = c.containers-containers.ensures.containers in
    let done = (rw same at c.is_done.ensures).0 c.if-is_done.true in
    IfSome_then c.next-event.result c.next-event.ensures.event (λ event gives events g.
    rw (← c.self.view_is, some) (last_event (drop b.before.bytes b.page.now) b.walk.extensions b.walk.containers b.walk.term b.walk.paragraph b.before.lines
    b.before.bytes b.begun
    b.content.items c.in-Some.block
    c.next-event.new.self (seen_event event) (rw (same, c.deref.ensures.value) at gives) done events (rw (c.take.ensures.after, same) at g)))

pub returns-else-is_done-clause-event : goal.returns-else-is_done-clause-event
returns-else-is_done-clause-event c =
    let b = c.self.inside in
    let some = sym c.take.ensures.value ∙ c.in-Some.is in
    let same = c.containers-containers.ensures.containers in
    IfSome_then c.next-event.result c.next-event.ensures.event (λ event gives events g.
    rw (← c.self.view_is, some) (block_event (drop b.before.bytes b.page.now) b.walk.extensions b.walk.containers b.walk.term b.walk.paragraph
    b.before.lines b.before.bytes b.begun
    b.begun b.content.items
    c.in-Some.block c.next-event.new.self (seen_event event) (rw (same, c.deref.ensures.value) at gives) events g))
