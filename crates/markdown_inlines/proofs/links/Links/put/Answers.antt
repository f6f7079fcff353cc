use Rattle.std.proofs.Common.{ℕ, List, [], ◌∷◌, ◌++◌, ◌∙◌, ap, arith, length, map, slice_set, Some}
use Rattle.std.proofs.lemmas.List.{length-append}
use Rattle.markdown_inlines.specs.LinkLists.{link_of}
use Rattle.markdown_inlines.specs.declared.links.Link.{Link}
use Rattle.markdown_inlines.proofs.links.LinkLemmas.{is_put}
use Rattle.markdown_inlines.proofs.links.Links.put.Goals as goal

pub returns : goal.returns
returns c =
    let links = c.self.inside.links.items in
    let numbers = c.self.inside.numbers.items in
    let link = c.args.link in
    let number = c.args.number in
    ap (λ (now : List Link). map (link_of now) (slice_set numbers number c.len.result)) c.in_ok-push.ensures.items
    ∙ ap (λ (last : ℕ). map (link_of (links ++ link ∷ [])) (slice_set numbers number last))
    (omega (arith, c.len.ensures, ap (λ (now : List Link). length now) c.in_ok-push.ensures.items, length-append links (link ∷ [])))
    ∙ is_put links link numbers number c.self.invariant
    ∙ ap (λ shown. slice_set shown number (Some link)) c.self.view_is
