use Rattle.std.proofs.Common.{◌∙◌, subst, ap}
use Rattle.std.proofs.lemmas.Result.{IfOk-weaker}
use Rattle.markdown_values.specs.strings.Text.{cow_text}
use Rattle.markdown_inlines.specs.Links.{IsLabelAt}
use Rattle.markdown_inlines.proofs.link_targets.TargetLemmas.{known_label, ends_elsewhere}
use Rattle.markdown_inlines.proofs.link_targets.is_known.Goals as goal
use Rattle.markdown_inlines.proofs.link_targets.is_known.Goals.{in_default-via-in-Some+else-end-close, in_default-via-in_default}

pub returns-in-Some : goal.returns-in-Some
returns-in-Some g c =
    let name = cow_text c.in-Some.name in
    let known = g.L.Labels.known c.args.labels.now in
    let found = rw c.in-Some.is at c.in_ok-end.ensures.found in
    let here = subst (λ end. IsLabelAt c.args.text.now c.args.from end name) c.if-end-close.true found in
    IfOk-weaker c.is_defined.result _ _
    (λ is_defined holds. known_label c.args.text.now known c.args.from c.args.close name is_defined here (holds ∙ ap known c.as_str.ensures))
    c.is_defined.ensures

pub returns-in_default : goal.returns-in_default
returns-in_default g c = (
  λ t. absurd (let no = t in cc),
  λ is. elim c.in_default.branch [
    | in_default-via-in-Some+else-end-close w ↦
        let found = rw w.in-Some.is at c.in_ok-end.ensures.found in
        absurd (ends_elsewhere c.args.text.now (g.L.Labels.known c.args.labels.now) c.args.from c.args.close w.in-Some.end
        (cow_text w.in-Some.name) found w.if-end-close.false is)
    | in_default-via-in_default w ↦
        let none = rw w.in_default.is at c.in_ok-end.ensures.none in
        absurd (none c.args.close is.0 is.1)
  ],
)
