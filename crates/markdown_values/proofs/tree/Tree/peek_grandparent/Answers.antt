use Rattle.std.proofs.Common.{◌≡◌, length, arith}
use Rattle.markdown_values.proofs.tree.TreeLemmas.{last-but_last, last-but_last-none}
use Rattle.markdown_values.proofs.tree.Tree.peek_grandparent.Goals as goal

pub returns-then-count-ge2-clause-grandparent : goal.returns-then-count-ge2-clause-grandparent
returns-then-count-ge2-clause-grandparent g c =
    let counted : c.spine_len-count.result ≡ length c.self.inside.spine.items = rw (← c.self.view_is) at c.spine_len-count.ensures in
    rw (← c.self.view_is) (last-but_last c.self.inside.spine.items _ (omega arith) (rw counted at c.index.ensures))

pub returns-else-count-ge2-clause-grandparent : goal.returns-else-count-ge2-clause-grandparent
returns-else-count-ge2-clause-grandparent g c = last-but_last-none c.args.self.now.spine (omega arith)
