use Rattle.std.proofs.Common.{ℕ, List, ◌≡◌, ◌++◌, ◌∙◌, ap, append_assoc, codes, string_bytes}
use Rattle.page_events.specs.Json.{link_members}
use Rattle.page_links.specs.links.Links.{seen_link}
use Rattle.page_links.specs.printing.Lines.{element_member, file_member, position_members, range_members}
use Rattle.page_links.proofs.TextLemmas.{longer}
use Rattle.page_links.proofs.printing.json.push_link_json.Goals as goal

joined : (text file position range element members last : List ℕ)
    → text ++ file ++ position ++ range ++ element ++ members ++ last
    ≡ text ++ (file ++ position ++ range ++ element ++ members ++ last)
joined text file position range element members last = simp append_assoc

pub returns : goal.returns
returns c =
    let text = string_bytes c.args.text.now in
    let it = seen_link c.args.link.now in
    let file = file_member c.args.name.now in
    let position = position_members c.args.position in
    let element = element_member it.is_image in
    let members = link_members it.link_type it.destination it.title it.label in
    let there = c.in_ok-push_position.ensures ∙ ap (λ t. t ++ position) c.in_ok-push_file.ensures in
    let ranged = c.in_ok-push_range.ensures ∙ ap (λ t. t ++ range_members it) there in
    let named = c.in_ok-push_element.ensures ∙ ap (λ t. t ++ element) ranged in
    let said = c.in_ok-push_link_members.ensures ∙ ap (λ t. t ++ members) named in
    longer c.push_str.result _ _ _ _ c.push_str.ensures.bytes
    (ap (λ t. t ++ codes "}\n") said ∙ joined text file position (range_members it) element members (codes "}\n"))
