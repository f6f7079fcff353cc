use Rattle.std.proofs.Common.{◌∙◌, ap, drop, subst, sym}
use Rattle.std.proofs.lemmas.Result.{on_ok_weaker}
use Rattle.html_entities.specs.Entities.{html_entity}
use Rattle.markdown_values.specs.values.Events.{text}
use Rattle.markdown_scanners_tree.specs.scanners.entities.CharacterReference.{StartsWithReference}
use Rattle.markdown_events.specs.InlineEvents.{ranged}
use Rattle.markdown_events.specs.Passes.{with_event}
use Rattle.markdown_events.proofs.inline_events.push_meaning.Goals as goal

pub returns : goal.returns
returns c =
    on_ok_weaker c.push.result (λ pushed len meaning is.
    pushed ∙ ap (λ t. with_event (ranged (text t) c.args.start c.args.end) c.args.writer.now)
    (c.meaning_at-meaning.ensures len meaning (subst (λ t. StartsWithReference html_entity (drop c.args.start t) len meaning) (sym c.text.ensures) is)))
    c.push.ensures
