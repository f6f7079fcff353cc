use Rattle.std.proofs.Common.{◌≡◌, ap, sym, ◌∙◌}
use Rattle.markdown_blocks.specs.containers.Containers.{Rest}
use Rattle.markdown_blocks.proofs.containers.ContainerLemmas.{begun_given}
use Rattle.markdown_blocks.proofs.line.Line.begins_container.Goals as goal

pub returns : goal.returns
returns c = rw (← c.self.view_is) (
    let columns = ap (λ (r : Rest). r.indent) (c.rest.view_is ∙ (rw (← c.self.view_is) at c.rest-rest.ensures)) in
    let same : c.in-Ok.start ≡ c.self.inside.after = c.in-Ok.ensures.cases in
    let asked = rw (← c.self.view_is) at c.asked.ensures in
    let begun = begun_given c.asked.result _ c.in-Ok.start c.scan_container.new.start _ c.scan_container.result columns
    (same ∙ c.self.invariant.3) c.scan_container.ensures.found c.scan_container.ensures.none in
    c.is_some.ensures ∙ rw asked at begun)

pub returns-then-begins_plain_item : goal.returns-then-begins_plain_item
returns-then-begins_plain_item c = sym (c.begins_plain_item.ensures c.if-begins_plain_item.true)
