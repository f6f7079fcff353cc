use Rattle.std.proofs.Common.{sym, subst, ap, ◌∙◌, ◌≡◌, ◌∷◌, [], reverse}
use Rattle.std.proofs.lemmas.List.{reverse-append}
use Rattle.markdown_blocks.specs.events.Events.{ends, seen_event, seen_leaf}
use Rattle.markdown_events.specs.page.Levels.{IsKnownOf, level_of}
use Rattle.markdown_blocks.specs.lists.Lists.{nothing}
use Rattle.markdown_events.proofs.page.ReadLemmas.{KnownOf, known_with_leaf, known_with_end}
use Rattle.markdown_events.proofs.page.spans.Reader.read.Goals as goal

pub returns-in-Block : goal.returns-in-Block
returns-in-Block c = λ events known.
    let before = subst (IsKnownOf events) (sym c.self.view_is) known in
    let outer = reverse c.self.inside.outer.items in
    let found = reverse c.self.inside.spans.items in
    let level = c.add_leaf.new.self in
    subst (λ e. KnownOf (seen_event e ∷ events) level outer found) (sym c.in-Block.is)
    (known_with_leaf (seen_leaf c.in-Block.leaf) events c.self.inside.level level outer found c.add_leaf.ensures before)

pub returns-in_ok-push-in-End : goal.returns-in_ok-push-in-End
returns-in_ok-push-in-End c = λ events known.
    let before = subst (IsKnownOf events) (sym c.self-in-End.view_is) known in
    let level = c.self-in-End.inside.level in
    let found = reverse c.self-in-End.inside.spans.items in
    let outer : reverse c.push.new.self.items ≡ level ∷ reverse c.self-in-End.inside.outer.items =
    ap reverse c.in_ok-push-in-End.ensures.items ∙ reverse-append c.self-in-End.inside.outer.items (level ∷ []) in
    let ended = known_with_end events level (reverse c.self-in-End.inside.outer.items) found before in
    let here = subst (λ o. KnownOf (ends ∷ events) (level_of nothing) o found) (sym outer) ended in
    let there = subst (λ l. KnownOf (ends ∷ events) l (reverse c.push.new.self.items) found) (sym c.nothing-self-inside.ensures) here in
    subst (λ e. KnownOf (seen_event e ∷ events) c.nothing-self-inside.result (reverse c.push.new.self.items) found) (sym c.in-End.is) there
