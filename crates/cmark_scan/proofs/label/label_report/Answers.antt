-- The handler answers 0 for each rest, and nothing else.
use Rattle.std.proofs.Common.{ℕ, ◌≡◌, Some, rules, of_calls, refl, sym, ◌∙◌, ap, subst, inl, inr}
use Rattle.std.proofs.lemmas.Result.{IfOk-weaker}
use Rattle.markdown_scanners_tree.specs.linklabel.Answer.{answered_label}
use Rattle.markdown_scanners_tree.specs.linklabel.Label.{Label}
use Rattle.cmark_scan.specs.label.LabelRun.{IsLabelOf}
use Rattle.cmark_scan.specs.declared.report.Ended.TheVariants.{Done}
use Rattle.cmark_scan.specs.report.Report.{outcome_of}
use Rattle.markdown_scanners_tree.specs.NoSkips.{SkipsNothing}
use Rattle.markdown_scanners_tree.proofs.ForCallers.{label_of_more}
use Rattle.cmark_scan.proofs.label.label_report.Goals as goal

same : (m n : ℕ) → Some m ≡ Some n → m ≡ n
same m n e = cc

pub returns-in_ok-label_text-in-Some : goal.returns-in_ok-label_text-in-Some
returns-in_ok-label_text-in-Some c =
    let found = rw c.in-Some.is at c.in_ok-taken.ensures.found in
    let text = c.in-Ok.ensures.cases in
    let label = answered_label (c.in-Some.taken, c.in-Some.label) in
    let is : IsLabelOf c.args.bytes.now label =
    subst (λ z. IsLabelOf z label) text.0
    (label_of_more _ SkipsNothing
    (λ rest skip x. (let e : Some skip ≡ Some 0 = search (rules, of_calls) in same skip 0 e)) _ _ label found) in
    let printed = ap (λ lines. outcome_of lines Done) c.in_ok-label_text-in-Some.ensures in
    IfOk-weaker c.from_string.result _ _ (λ report shown. inl (text.1, (label, is, shown ∙ printed))) c.from_string.ensures

pub returns-in-None : goal.returns-in-None
returns-in-None c =
    let none = rw c.in-None.is at c.in_ok-taken.ensures.found in
    let text = c.in-Ok.ensures.cases in
    let no_label : (label : Label) → IsLabelOf c.args.bytes.now label → ⊥ =
    λ label l. none label (label_of_more SkipsNothing _
    (λ rest skip e. record {
      shown = record c.in-Ok.text { now = rest };
      shows = refl;
      says = record { met = ap Some e };
    }) _ _ label (subst (λ z. IsLabelOf z label) (sym text.0) l)) in
    inr (inl (text.1, no_label, λ i. record { printed = c.from.ensures.0 i; status = 1 }))
