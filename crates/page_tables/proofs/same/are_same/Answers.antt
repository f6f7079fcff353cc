use Rattle.std.proofs.Common.{sym, arith}
use Rattle.page_tables.proofs.MarkLemmas.{none_seen, seen_none}
use Rattle.page_tables.proofs.same.are_same.Goals as goal

pub returns : goal.returns
returns c =
    let page = c.args.page.now in
    let other = c.args.other.now in
    let columns = c.loop-left.columns in
    let left = none_seen page columns c.loop-left.left.now (grind arith) in
    let all = rw left at c.loop-left.invariant in (
      λ t. all.0 (sym (none_seen other columns c.loop-left.right.now (grind arith))),
      λ s. let none = seen_none other columns c.loop-left.right.now (sym (all.1 s)) in grind (arith, none),
    )
