use Rattle.std.proofs.Common.{chars, flat_map, sym, ap, ◌∙◌, map-id}
use Rattle.std.proofs.lemmas.Iterator.{YieldsList-from_chars}
use Rattle.std.proofs.lemmas.Iterator.Consumers.{YieldsList-end}
use Rattle.page_links.specs.headings.Headings.{kept}
use Rattle.page_links.proofs.headings.slug_of.Goals as goal

pub returns : goal.returns
returns c =
    let text = YieldsList-from_chars c.as_str.result.now c.as_str.utf8 cc in
    let end = YieldsList-end text c.loop-c.yielded _ c.loop-c.yielded_by _ _ c.in-None.is c.next.ensures.steps in
    c.loop-c.invariant ∙ ap (flat_map kept) (sym (map-id c.loop-c.yielded) ∙ end.0)
    ∙ ap (λ text. flat_map kept (chars text)) (c.as_str.ensures.value ∙ c.in_ok-lower.ensures.value)
