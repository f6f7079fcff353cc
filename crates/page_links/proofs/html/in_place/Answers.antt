use Rattle.std.proofs.Common.{ℕ, List, ap, drop, map, sym, ◌∙◌, ◌+◌, ◌∷◌}
use Rattle.std.proofs.lemmas.List.{at_drop_more}
use Rattle.page_links.specs.html.Html.{in_place, seen_part}
use Rattle.page_links.specs.declared.html.HtmlPart.{HtmlPart}
use Rattle.page_links.proofs.html.in_place.Goals as goal

pub loop-part-preserved : goal.loop-part-preserved
loop-part-preserved c =
    let parts = c.args.parts.now in
    let i = c.loop-part.part-index in
    let it = c.part-item.result in
    let html = c.loop-part.html.items in
    let later = map seen_part (drop (i + 1) parts) in
    let parted = at_drop_more (λ rest. in_place html (map seen_part rest)) parts i it c.loop-part-test.true in
    let item = ap (λ (one : HtmlPart). in_place html (seen_part one ∷ later)) c.part-item.is in
    ap (λ (written : List ℕ). in_place written later) c.in_ok-add_part.ensures ∙ item ∙ sym parted ∙ c.loop-part.invariant
