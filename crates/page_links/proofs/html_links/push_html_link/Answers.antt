use Rattle.std.proofs.Common.{ℕ, List, [], ◌∷◌, ◌++◌, ◌≡◌, ◌∙◌, Option, Some, ap, map, refl, string_bytes, subst, sym}
use Rattle.std.proofs.lemmas.List.{map-append}
use Rattle.html_attributes.specs.StartTags.{seen_tag}
use Rattle.page_links.specs.html_links.HtmlLinks.{AreOfTarget, link_at, target_of}
use Rattle.page_links.specs.links.Links.{Seen, seen_link}
use Rattle.page_links.proofs.html_links.push_html_link.Goals as goal

pub returns : goal.returns
returns c =
    let tag = seen_tag c.args.tag.now in
    let text = string_bytes c.in_ok-destination.destination in
    let before = c.args.links.now.items in
    let leads : target_of tag ≡ Some c.in-Some.value.now = sym c.in-Some.ensures in
    let pushed = ap (map seen_link) c.in_ok-push.ensures.items ∙ map-append seen_link before (c.in_ok-link.link ∷ []) in (
      link_at tag text ∷ [],
      subst (λ (target : Option (List ℕ)). AreOfTarget tag target (link_at tag text ∷ [])) (sym leads) (text, c.in_ok-destination.ensures, refl),
      pushed ∙ ap (λ (it : Seen). map seen_link before ++ it ∷ []) c.in_ok-link.ensures,
    )
