use Rattle.std.proofs.Common.{subst}
use Rattle.markdown_events.specs.page.Given.{GivesWith, PageLeft}
use Rattle.markdown_events.proofs.broken_links.BrokenLinkParser.new.Goals as goal

pub returns-in-Ok-clause-balanced : goal.returns-in-Ok-clause-balanced
returns-in-Ok-clause-balanced g c = λ events given.
    let targets = g.B.Definitions.targets c.args.broken in
    c.in-Ok.ensures.broken_balanced targets events (subst (λ (left : PageLeft). GivesWith targets left events) c.of_reader.ensures.left given)

pub returns-in-Ok-clause-nested : goal.returns-in-Ok-clause-nested
returns-in-Ok-clause-nested g c = λ events given.
    let targets = g.B.Definitions.targets c.args.broken in
    c.in-Ok.ensures.broken_nested targets events (subst (λ (left : PageLeft). GivesWith targets left events) c.of_reader.ensures.left given)

pub returns-in-Ok-clause-within : goal.returns-in-Ok-clause-within
returns-in-Ok-clause-within g c = λ events given.
    let targets = g.B.Definitions.targets c.args.broken in
    c.in-Ok.ensures.broken_within targets events (subst (λ (left : PageLeft). GivesWith targets left events) c.of_reader.ensures.left given)

pub returns-in-Ok-clause-boundaries : goal.returns-in-Ok-clause-boundaries
returns-in-Ok-clause-boundaries g c = λ events given.
    let targets = g.B.Definitions.targets c.args.broken in
    c.in-Ok.ensures.broken_boundaries targets events (subst (λ (left : PageLeft). GivesWith targets left events) c.of_reader.ensures.left given)

pub returns-in-Ok-clause-references : goal.returns-in-Ok-clause-references
returns-in-Ok-clause-references g c = λ events given.
    let targets = g.B.Definitions.targets c.args.broken in
    c.in-Ok.ensures.broken_references targets events (subst (λ (left : PageLeft). GivesWith targets left events) c.of_reader.ensures.left given)

pub returns-in-Ok-clause-cells : goal.returns-in-Ok-clause-cells
returns-in-Ok-clause-cells g c = λ events given.
    let targets = g.B.Definitions.targets c.args.broken in
    c.in-Ok.ensures.broken_cells targets events (subst (λ (left : PageLeft). GivesWith targets left events) c.of_reader.ensures.left given)

pub returns-in-Ok-clause-few : goal.returns-in-Ok-clause-few
returns-in-Ok-clause-few g c = λ events given.
    let targets = g.B.Definitions.targets c.args.broken in
    c.in-Ok.ensures.broken_few targets events (subst (λ (left : PageLeft). GivesWith targets left events) c.of_reader.ensures.left given)
