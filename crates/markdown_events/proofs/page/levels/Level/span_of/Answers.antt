use Rattle.std.proofs.Common.{Some, None, refl}
use Rattle.markdown_events.specs.page.Levels.{goes_on}
use Rattle.markdown_events.proofs.page.LevelLemmas.{span_known}
use Rattle.markdown_events.proofs.page.levels.Level.span_of.Goals as goal

pub returns-in-Some : goal.returns-in-Some
returns-in-Some c = λ inner later same same_later.
    span_known c.args.container c.args.content c.args.self inner later same same_later (Some c.in-Some.list)
    (c.in-Some.ensures 0 inner later same same_later) c.goes_on.result c.goes_on.ensures c.end_in-to.result c.end_in-to.ensures

pub returns-in-None : goal.returns-in-None
returns-in-None c = λ inner later same same_later.
    span_known c.args.container c.args.content c.args.self inner later same same_later None
    (c.in-None.ensures 0 inner later same same_later) (goes_on c.args.container c.args.self.list) refl
    c.end_in-to.result c.end_in-to.ensures
