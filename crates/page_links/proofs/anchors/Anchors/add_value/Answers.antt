use Rattle.std.proofs.Common.{[], ◌∷◌, refl, string_bytes}
use Rattle.page_links.proofs.anchors.Anchors.add_value.Goals as goal

pub returns : goal.returns
returns c =
    let anchor = string_bytes c.in_ok-anchor.anchor in
    (anchor ∷ [], rw c.in-Some.is (anchor, c.in_ok-anchor.ensures, refl), c.in_ok-add.ensures)
