use Rattle.std.proofs.Common.{◌<◌, ◌≡◌, ◌-◌, ap, arith, drop, false, length, length-drop, sym, take, ◌∙◌}
use Rattle.std.proofs.lemmas.List.{take_all}
use Rattle.html_attributes.specs.StartTags.{stands}
use Rattle.html_attributes.proofs.TagLemmas.{from_further}
use Rattle.html_attributes.proofs.tags.from.Goals as goal

pub loop-count-preserved : goal.loop-count-preserved
loop-count-preserved c =
    let text = c.args.text.now in
    let bytes = c.args.bytes.now in
    let count = c.loop-count.count in
    let low : count < length bytes = c.loop-count-test.true in
    let left = drop count bytes in
    let whole : take (length bytes - count) left ≡ left = take_all (length bytes - count) left (omega (arith, length-drop count bytes)) in
    let other : stands text (drop count bytes) ≡ false = ap (stands text) (sym whole) ∙ sym c.stands.ensures ∙ c.if-not-stands.true in
    record { within = omega (arith, low); left = from_further text bytes count low other ∙ c.loop-count.invariant.left }
