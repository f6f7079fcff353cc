use Rattle.std.proofs.Common.{ℕ, List, ◌++◌, append_assoc, refl, subst}
use Rattle.page_links.specs.anchors.Anchors.{HasAnchors}
use Rattle.page_links.proofs.anchors.Anchors.add_tag.Goals as goal

pub returns : goal.returns
returns c =
    let ids = c.in_ok-add_value.ensures in
    let names = c.in_ok-add_value-2.ensures in (
      ids.0 ++ names.0,
      (ids.0, names.0, rw c.value_of.ensures at ids.1, rw c.name_of.ensures at names.1, refl),
      λ anchors are.
          subst (λ (all : List (List ℕ)). HasAnchors c.add_value-2.new.self all) (append_assoc anchors ids.0 names.0)
          (names.2 (anchors ++ ids.0) (ids.2 anchors are)),
    )
