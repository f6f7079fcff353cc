use Rattle.std.proofs.Common.{◌++◌, ◌∷◌, [], map, sym, ap, refl, ◌∙◌, append_assoc, append-nil}
use Rattle.markdown_blocks.specs.events.Events.{seen_event}
use Rattle.markdown_scanners_c.specs.Pages.{event_returned}
use Rattle.markdown_scanners_c.proofs.pages.returned_blocks.Goals as goal

pub loop-blocks-init : goal.loop-blocks-init
loop-blocks-init c = λ later g. (later, c.new_ext-blocks.ensures.page later g, rw c.new-returned.ensures.items refl)

pub loop-blocks-preserved : goal.loop-blocks-preserved
loop-blocks-preserved c = λ later g.
    let before = c.loop-blocks.invariant (seen_event c.in-Some.event ∷ later) ((rw c.in-Some.is at c.in_ok-event.ensures.event) later g) in
    let returned = c.loop-blocks.returned.items in (
      before.0,
      before.1,
      before.2 ∙ ap (λ b. returned ++ (b ∷ map event_returned later)) (sym c.event_returned.ensures)
          ∙ sym (append_assoc returned (c.event_returned.result ∷ []) (map event_returned later))
          ∙ ap (λ ts. ts ++ map event_returned later) (sym c.in_ok-push.ensures.items),
    )

pub returns : goal.returns
returns c =
    let all = c.loop-blocks.invariant [] (rw c.in_default.is at c.in_ok-event.ensures.none) in
    (all.0, all.1, sym (all.2 ∙ append-nil c.loop-blocks.returned.items))
