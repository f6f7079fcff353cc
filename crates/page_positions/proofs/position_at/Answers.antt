use Rattle.std.proofs.Common.{arith, sym, length, ◌≤◌}
use Rattle.page_positions.proofs.PositionLemmas.{position_found}
use Rattle.page_positions.proofs.position_at.Goals as goal

pub returns-clause-position : goal.returns-clause-position
returns-clause-position c =
    let page = c.args.page.now in
    sym (position_found page c.holding.result c.args.offset c.min.result c.holding.ensures.line c.holding.ensures.begun
    c.holding.ensures.holds (λ (low : c.args.offset ≤ length page). omega arith) (λ (high : length page ≤ c.args.offset). omega arith))
