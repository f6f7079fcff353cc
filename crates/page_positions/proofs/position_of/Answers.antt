use Rattle.std.proofs.Common.{ap, ◌∙◌}
use Rattle.page_positions.specs.Positions.{offset_of}
use Rattle.page_positions.proofs.OffsetLemmas.{offset_back}
use Rattle.page_positions.proofs.position_of.Goals as goal

pub returns-clause-back : goal.returns-clause-back
returns-clause-back c =
    λ within. ap (offset_of c.args.page.now) c.position_at.ensures.position ∙ offset_back c.args.page.now c.args.offset within
