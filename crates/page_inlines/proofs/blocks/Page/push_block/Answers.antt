use Rattle.std.proofs.Common.{[], ◌∷◌, ◌++◌, string_bytes, refl, subst, append-nil}
use Rattle.markdown_blocks.specs.events.Events.{seen_event}
use Rattle.page_inlines.specs.BlockTexts.{HasPrinted}
use Rattle.page_inlines.specs.Labels.{setting_of}
use Rattle.page_inlines.proofs.TextLemmas.{grown_before}
use Rattle.page_inlines.proofs.blocks.Page.push_block.Goals as goal

pub loop-event-init : goal.loop-event-init
loop-event-init c = λ later more gives is. record { events = later; gives = gives; text = more; is_text = is; grown = refl }

pub loop-event-preserved : goal.loop-event-preserved
loop-event-preserved c = λ later more gives is.
    let printed = c.in_ok-going_on.ensures in
    subst (λ t. HasPrinted (setting_of c.args.self.now) c.args.self.now.bytes.now c.args.containers.now c.args.kept c.args.content.now
    c.args.events (string_bytes c.args.out.now.text) t)
    (grown_before (string_bytes c.loop-event.out.text) printed.0 (string_bytes c.push_event.new.out.text) more printed.1)
    (c.loop-event.invariant (seen_event c.in-Some.event ∷ later) (printed.0 ++ more) (c.in-Some.ensures.event later gives) (printed.2 later more is))

pub returns : goal.returns
returns c =
    subst (λ t. HasPrinted (setting_of c.args.self.now) c.args.self.now.bytes.now c.args.containers.now c.args.kept c.args.content.now
    c.args.events (string_bytes c.args.out.now.text) t)
    (append-nil (string_bytes c.loop-event.out.text)) (c.loop-event.invariant [] [] c.in_default.ensures.none refl)
