use Rattle.std.proofs.Common.{length, refl, arith}
use Rattle.std.proofs.lemmas.Option.{slice_get_read}
use Rattle.markdown_values.proofs.tree.TreeLemmas.{update_at-read, length-update_at}
use Rattle.markdown_values.proofs.tree.Tree.item_mut.Goals as goal

pub returns : goal.returns
returns g c =
    let within = rw (← c.self.view_is) at c.requires in
    let read = slice_get_read c.self.inside.nodes.items (length c.self.inside.nodes.items) c.get.result c.index_mut.result.now refl (omega arith) c.index_mut.ensures.value in (
      (
        refl,
        λ w. rw (
          ← c.self.view_is,
          ← c.get.ensures.value,
          update_at-read
              (λ node. record node { item = w }) c.self.inside.nodes.items c.get.result c.index_mut.result.now
              (omega arith) c.index_mut.ensures.value,
        ),
      ),
      record { writes_back = tt; value = rw (← c.self.view_is, ← c.get.ensures.value, read); count = λ item. length-update_at (λ node. record node { item = item }) c.args.self.now.nodes c.args.ix },
    )
