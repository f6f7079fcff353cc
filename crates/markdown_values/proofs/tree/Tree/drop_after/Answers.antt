use Rattle.markdown_values.proofs.tree.Tree.drop_after.Goals as goal
use Rattle.markdown_values.proofs.tree.Tree.drop_after.Goals.{in-Some, in-None}

pub focus_on-requires : goal.focus_on-requires
focus_on-requires g c =
    elim c.match-previous.branch [
      | in-Some w ↦ rw (w.previous-is, w.self-is, w.set_next.ensures.count) (rw w.in-Some.is at c.requires.previous)
      | in-None w ↦ rw (w.previous-is, w.self-is, w.set_child.ensures.count) c.requires.previous
    ]
