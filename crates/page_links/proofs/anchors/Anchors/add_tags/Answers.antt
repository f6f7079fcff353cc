use Rattle.std.proofs.Common.{ℕ, List, [], ◌∷◌, ◌++◌, ◌+◌, ◌≡◌, ap, append-nil, append_assoc, drop, map, refl, subst, sym, ◌∙◌}
use Rattle.std.proofs.lemmas.List.{drop_all, drop_more}
use Rattle.html_attributes.specs.StartTags.{seen_tag}
use Rattle.html_attributes.specs.declared.tags.StartTag.{StartTag}
use Rattle.page_links.specs.anchors.Anchors.{AreOfTags, HasAnchors}
use Rattle.page_links.proofs.anchors.Anchors.add_tags.Goals as goal

pub loop-tag-preserved : goal.loop-tag-preserved
loop-tag-preserved c =
    let tags = c.args.tags.now in
    let i = c.loop-tag.tag-index in
    let so_far = c.loop-tag.invariant in
    let here = c.in_ok-add_tag.ensures in
    let rest = drop (i + 1) tags in
    let parted : drop i tags ≡ c.tag-item.result ∷ rest =
    drop_more tags i c.tag-item.result c.loop-tag-test.true ∙ ap (λ (it : StartTag). it ∷ rest) (sym c.tag-item.is) in (
      so_far.0 ++ here.0,
      λ later are.
          subst (λ (made : List (List ℕ)). AreOfTags (map seen_tag tags) made) (sym (append_assoc so_far.0 here.0 later))
          (so_far.1 (here.0 ++ later) (subst (λ (left : List StartTag). AreOfTags (map seen_tag left) (here.0 ++ later)) (sym parted)
          (here.0, later, here.1, are, refl))),
      λ anchors are.
          subst (λ (all : List (List ℕ)). HasAnchors c.add_tag.new.self all) (append_assoc anchors so_far.0 here.0)
          (here.2 (anchors ++ so_far.0) (so_far.2 anchors are)),
    )

pub returns : goal.returns
returns c =
    let tags = c.args.tags.now in
    let so_far = c.loop-tag.invariant in
    let none : drop c.loop-tag.tag-index tags ≡ [] = drop_all c.loop-tag.tag-index tags c.loop-tag-test.false in
    let all = so_far.1 [] (subst (λ (left : List StartTag). AreOfTags (map seen_tag left) []) (sym none) refl) in
    (so_far.0, subst (λ (made : List (List ℕ)). AreOfTags (map seen_tag tags) made) (append-nil so_far.0) all, so_far.2)
