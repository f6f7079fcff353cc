use Rattle.std.proofs.Common.{[], ◌∷◌, ◌++◌, ◌≡◌, ◌∙◌, sym, ap, append-nil, append_assoc, arith}
use Rattle.std.proofs.lemmas.List.{nil_from_length}
use Rattle.std.proofs.lemmas.Result.{IfOk-weaker}
use Rattle.std.specs.Str.Lossy.{utf8_lossy}
use Rattle.markdown_scanners_tree.specs.scanners.unescaping.Unescaping.{joined_meanings}
use Rattle.html_attributes.proofs.values.meaning_of.Goals as goal

pub loop-rest-preserved : goal.loop-rest-preserved
loop-rest-preserved g c = λ later are.
    let passed = c.in_ok-rest.ensures.first in
    let whole = c.loop-rest.invariant (passed.0 ∷ later) (c.in_ok-rest.rest.now, passed.2, passed.1, are) in (
      whole.0,
      whole.1,
      ap (λ bytes. bytes ++ joined_meanings later) passed.3
          ∙ append_assoc c.loop-rest.bytes.items passed.0.meaning (joined_meanings later) ∙ whole.2,
    )

pub returns : goal.returns
returns g c =
    let bytes = c.loop-rest.bytes.items in
    let none : c.loop-rest.rest.now ≡ [] = nil_from_length c.loop-rest.rest.now (grind (arith, c.is_empty.ensures, c.loop-rest-test.false)) in
    let whole = c.loop-rest.invariant [] none in
    let read : c.deref.result.now ≡ joined_meanings whole.0 = c.deref.ensures.value ∙ sym (append-nil bytes) ∙ whole.2 in
    IfOk-weaker c.from_utf8_lossy.result _ _
    (λ text is. record { pieces = whole.0; are_meanings = whole.1; is_joined = is ∙ ap utf8_lossy read }) c.from_utf8_lossy.ensures.lossy
