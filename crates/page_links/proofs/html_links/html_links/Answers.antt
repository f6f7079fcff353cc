use Rattle.std.proofs.Common.{List, [], ◌∷◌, ◌++◌, ◌+◌, ◌≡◌, ap, append-nil, append_assoc, drop, map, refl, subst, sym, ◌∙◌}
use Rattle.std.proofs.lemmas.List.{drop_all, drop_more}
use Rattle.html_attributes.specs.StartTags.{seen_tag}
use Rattle.html_attributes.specs.declared.tags.StartTag.{StartTag}
use Rattle.page_links.specs.html_links.HtmlLinks.{AreHtmlLinks}
use Rattle.page_links.specs.links.Links.{Seen, seen_link}
use Rattle.page_links.proofs.html_links.html_links.Goals as goal

pub loop-tag-preserved : goal.loop-tag-preserved
loop-tag-preserved c = λ rest are.
    let tags = c.args.tags.now in
    let i = c.loop-tag.tag-index in
    let here = c.in_ok-push_html_link.ensures in
    let later = drop (i + 1) tags in
    let before = map seen_link c.loop-tag.links.items in
    let parted : drop i tags ≡ c.tag-item.result ∷ later =
    drop_more tags i c.tag-item.result c.loop-tag-test.true ∙ ap (λ (it : StartTag). it ∷ later) (sym c.tag-item.is) in
    subst (λ (links : List Seen). AreHtmlLinks (map seen_tag tags) links)
    (sym (ap (λ (links : List Seen). links ++ rest) here.2 ∙ append_assoc before here.0 rest))
    (c.loop-tag.invariant (here.0 ++ rest) (subst (λ (left : List StartTag). AreHtmlLinks (map seen_tag left) (here.0 ++ rest)) (sym parted)
    (here.0, rest, here.1, are, refl)))

pub returns : goal.returns
returns c =
    let tags = c.args.tags.now in
    let links = map seen_link c.loop-tag.links.items in
    let none : drop c.loop-tag.tag-index tags ≡ [] = drop_all c.loop-tag.tag-index tags c.loop-tag-test.false in
    subst (λ (all : List Seen). AreHtmlLinks (map seen_tag tags) all) (append-nil links)
    (c.loop-tag.invariant [] (subst (λ (left : List StartTag). AreHtmlLinks (map seen_tag left) []) (sym none) refl))
