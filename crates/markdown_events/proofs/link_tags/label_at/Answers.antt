use Rattle.std.proofs.Common.{ℕ, List, ◌≡◌, ◌∙◌, subst}
use Rattle.std.specs.Prelude.{Result, Ok, Err, IfOk}
use Rattle.markdown_values.specs.strings.Text.{cow_text}
use Rattle.markdown_values.specs.declared.strings.CowStr.{CowStr}
use Rattle.markdown_inlines.specs.Links.{IsLabelAt}
use Rattle.markdown_events.proofs.link_tags.label_at.Goals as goal

-- this is the label that stands in the text from the offset on, if one does
abbrev IsLabelFrom : List ℕ → ℕ → List ℕ → Type 0
IsLabelFrom text offset label = (close : ℕ) (name : List ℕ) → IsLabelAt text offset close name → label ≡ name

same_label : {E : Type 0} (r : Result CowStr E) (text : List ℕ) (offset : ℕ) (label : List ℕ) → IsLabelFrom text offset label
    → IfOk r (λ lent. cow_text lent ≡ label) → IfOk r (λ lent. IsLabelFrom text offset (cow_text lent))
same_label (Ok lent) text offset label is same = λ close name at. same ∙ is close name at
same_label (Err e) text offset label is same = tt

pub returns-in-Some : goal.returns-in-Some
returns-in-Some c =
    subst (λ text. IfOk c.read_label.result (λ label. IsLabelFrom text c.args.offset (cow_text label))) c.in-Some.ensures c.read_label.ensures

pub returns : goal.returns
returns c =
    same_label c.lend.result c.args.source.now c.args.offset (cow_text c.in_ok-label.label)
    (subst (λ text. IsLabelFrom text c.args.offset (cow_text c.in_ok-label.label)) c.text.ensures c.in_ok-label.ensures) c.lend.ensures
