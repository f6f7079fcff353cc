use Rattle.markdown_inlines.specs.Inlines.{Setting}
use Rattle.markdown_inlines.proofs.inlines.Nests.{inlines_nest, inlines_stand}
use Rattle.markdown_inlines.proofs.inlines.InlineFinder.find.Goals as goal

pub returns-clause-nested : goal.returns-clause-nested
returns-clause-nested g c =
    let setting : Setting = record { asked = c.args.extensions; known = g.L.Labels.known c.args.labels.now } in
    inlines_nest c.args.text.now setting _ _ c.in_default.ensures.inlines

pub returns-clause-sources : goal.returns-clause-sources
returns-clause-sources g c =
    let setting : Setting = record { asked = c.args.extensions; known = g.L.Labels.known c.args.labels.now } in
    inlines_stand c.args.text.now setting _ _ c.in_default.ensures.inlines
