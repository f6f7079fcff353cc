use Rattle.std.proofs.Common.{◌++◌, ◌∷◌, [], sym, ap, ◌∙◌, append_assoc}
use Rattle.std.specs.Option.{option_to_list}
use Rattle.markdown_blocks.specs.events.Events.{seen_event}
use Rattle.markdown_blocks.specs.lists.Tracked.{lists_given}
use Rattle.markdown_blocks.proofs.lists.PageLemmas.{lists_are}
use Rattle.markdown_blocks.proofs.lists.lists_of_page_ext.Goals as goal

pub loop-found-init : goal.loop-found-init
loop-found-init c = λ events g. (
  events,
  c.new_ext-blocks.ensures.page events g,
  λ nodes same. rw (c.new-found.ensures.items, same) (sym (c.new-lists.ensures.lists nodes)),
)

pub loop-found-preserved : goal.loop-found-preserved
loop-found-preserved c = λ events g.
    let before = c.loop-found.invariant (seen_event c.in-Some.event ∷ events) ((rw c.in-Some.is at c.in_ok-event.ensures.event) events g) in
    let found = c.loop-found.found.items in (
      before.0,
      before.1,
      λ nodes same. rw c.in_ok-keep.ensures (before.2 nodes same ∙ ap (λ ls. found ++ ls) (c.in_ok-read.ensures.ended events)
          ∙ sym (append_assoc found (option_to_list c.in_ok-read.field-0) (lists_given c.read.new.self events))),
    )

pub returns : goal.returns
returns c =
    let before = c.loop-found.invariant [] (rw c.in_default.is at c.in_ok-event.ensures.none) in
    lists_are _ c.args.page.now before.0 _ before.1 (λ nodes same. before.2 nodes same ∙ ap (λ ls. c.loop-found.found.items ++ ls) c.finish.ensures.lists
    ∙ sym c.in_ok-keep-2.ensures)
