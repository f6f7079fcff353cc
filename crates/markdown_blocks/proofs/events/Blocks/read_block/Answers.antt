use Rattle.std.proofs.Common.{[], ◌+◌, drop, length, refl, sym, ap, ◌∙◌, arith}
use Rattle.std.proofs.lemmas.List.{drop-drop, length-drop}
use Rattle.markdown_blocks.proofs.taken.TakenLemmas.{slice_after}
use Rattle.markdown_blocks.proofs.events.EventLemmas.{step_kept, block_read, none_read, all_begun}
use Rattle.markdown_blocks.proofs.events.Blocks.read_block.Goals as goal

pub invariant_of-self-3 : goal.invariant_of-self-3
invariant_of-self-3 c =
    let rest = slice_after c.self.inside.page.now c.self.inside.before.bytes in
    let s = (rw c.in-Some.is at c.in_ok-next.ensures.step) [] (λ t. refl) in
    let within = rw (c.in-Some.is, rest) at c.in_ok-next.ensures.within in (
      omega (arith, within, c.self.invariant.0, length-drop c.self.inside.before.bytes c.self.inside.page.now),
      λ same. cc,
      rw c.new.ensures (omega (arith, ap length s.all)),
    )

pub returns-clause-same : goal.returns-clause-same
returns-clause-same c = λ events g.
    let before = c.self.inside.before in
    let rest = slice_after c.self.inside.page.now before.bytes in
    let s = rw rest at ((rw c.in-Some.is at c.in_ok-next.ensures.step) [] (λ t. refl)) in
    let gathered = rw c.in-Some.is at c.in_ok-next.ensures.content in
    let some = rw c.in-Some.is at c.in_ok-next.ensures.some in
    let within = rw (c.in-Some.is, rest) at c.in_ok-next.ensures.within in
    let none = none_read _ c.self.inside.block (ap (λ l. l.next) c.self.view_is ∙ c.requires) in
    let all = all_begun c.self.inside.begun _ c.in-Some.step.block.taken.bytes _ (c.self.invariant.1 none) some within in
    rw (← c.self.view_is, none) (block_read c.self.inside.walk c.next_block.new.self (drop before.bytes c.self.inside.page.now) c.in-Some.step s before
    c.next_block.new.content.items gathered c.self.inside.begun _ all (sym (drop-drop c.in-Some.step.block.taken.bytes before.bytes c.self.inside.page.now))
    events (rw c.new.ensures at g))

pub returns-clause-no_more : goal.returns-clause-no_more
returns-clause-no_more c =
    let before = c.self.inside.before in
    let page = c.self.inside.page.now in
    let rest = slice_after page before.bytes in
    let s = (rw c.in-Some.is at c.in_ok-next.ensures.step) [] (λ t. refl) in
    let kept = step_kept c.self.inside.walk c.next_block.new.self _ c.in-Some.step s in
    let some = rw c.in-Some.is at c.in_ok-next.ensures.some in
    let few = rw c.in-Some.is at c.in_ok-next.ensures.few in
    let within = rw (c.in-Some.is, rest) at c.in_ok-next.ensures.within in
    let none = none_read _ c.self.inside.block (ap (λ l. l.next) c.self.view_is ∙ c.requires) in
    let all = all_begun c.self.inside.begun _ c.in-Some.step.block.taken.bytes _ (c.self.invariant.1 none) some within in
    let size = length-drop before.bytes page in
    let left = length-drop (before.bytes + c.in-Some.step.block.taken.bytes) page in
    let counted = c.in-Some.step.counted in
    let lines = c.in-Some.step.block.taken.few in
    rw (← c.self.view_is, none, c.new.ensures) (omega (arith, kept, some, few, within, all, size, left, counted, lines))
