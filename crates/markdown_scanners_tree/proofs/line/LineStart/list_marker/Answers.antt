use Rattle.std.proofs.Common.{◌≡◌, Some, IfSome, ap, subst, drop, arith}
use Rattle.markdown_scanners_tree.specs.line.State.{unscanned}
use Rattle.markdown_scanners_tree.specs.scanners.list_items.ListMarker.{list_marker}
use Rattle.markdown_scanners_tree.proofs.line.LineStart.list_marker.Goals as goal

pub invariant_of-self : goal.invariant_of-self
invariant_of-self c =
    let i = c.self.invariant in
    (i.0, i.1, i.2, c.marker_at.ensures.truth i.3 c.self.inside.offset (omega arith))

pub returns-clause-found : goal.returns-clause-found
returns-clause-found c =
    let s = c.self.inside in
    let same : drop s.offset s.bytes.now ≡ unscanned c.args.self.now = ap unscanned c.self.view_is in
    subst (λ bytes. IfSome c.marker_at.result (λ r.
    list_marker bytes ≡ Some (record { width = r.0; delimiter = r.1; start = r.2 }))) same
    (c.marker_at.ensures.found c.self.invariant.3)
