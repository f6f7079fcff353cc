use Rattle.std.proofs.Common.{sym, subst, ap, ◌∙◌, ◌≡◌, ◌∷◌, [], reverse}
use Rattle.std.proofs.lemmas.List.{nil_from_length, reverse-append}
use Rattle.markdown_blocks.specs.events.Events.{starts}
use Rattle.markdown_events.specs.page.Levels.{IsKnownOf}
use Rattle.markdown_events.proofs.page.ReadLemmas.{KnownOf, known_with_none, known_with_start}
use Rattle.markdown_events.proofs.page.spans.Reader.start.Goals as goal

pub returns-in_default : goal.returns-in_default
returns-in_default c = λ events known.
    let before = subst (IsKnownOf events) (sym c.self.view_is) known in
    let level = c.self.inside.level in
    let found = reverse c.self.inside.spans.items in
    let none = nil_from_length c.self.inside.outer.items (sym c.self.inside.outer.ok.0 ∙ c.in_default.ensures.cases.0) in
    let none_left = nil_from_length c.pop.new.self.items (sym c.pop.new.self.ok.0 ∙ c.in_default.ensures.cases.1) in
    subst (λ o. KnownOf (starts c.args.container c.args.offset ∷ events) level (reverse o) found) (sym none_left)
    (known_with_none c.args.container c.args.offset events found level (subst (λ o. KnownOf events level (reverse o) found) none before))

pub returns : goal.returns
returns c = λ events known.
    let before = subst (IsKnownOf events) (sym c.self.view_is) known in
    let level = c.self.inside.level in
    let found = reverse c.self.inside.spans.items in
    let outer : reverse c.self.inside.outer.items ≡ c.in-Some.later ∷ reverse c.pop.new.self.items =
    ap reverse c.in-Some.ensures.items ∙ reverse-append c.pop.new.self.items (c.in-Some.later ∷ []) in
    let spans : reverse c.push.new.self.items ≡ c.span_of.result ∷ found =
    ap reverse c.in_ok-push.ensures.items ∙ reverse-append c.self.inside.spans.items (c.span_of.result ∷ []) in
    subst (KnownOf (starts c.args.container c.args.offset ∷ events) c.with_container-self-inside.result (reverse c.pop.new.self.items)) (sym spans)
    (known_with_start c.args.container c.args.offset events found level c.in-Some.later c.with_container-self-inside.result (reverse c.pop.new.self.items)
    c.span_of.result
    (λ inner nodes same same_later. (
      c.with_container-self-inside.ensures inner nodes (c.content-content.ensures inner same) same_later,
      c.span_of.ensures inner nodes (c.content-content.ensures inner same) same_later,
    ))
    (subst (λ o. KnownOf events level o found) outer before))
