use Rattle.std.proofs.Common.{[], ◌∷◌, ◌<◌, ◌≡◌, ◌∙◌, drop, length, map, sym, ap, subst, arith}
use Rattle.std.proofs.lemmas.Bool.{eqb-true}
use Rattle.std.proofs.lemmas.List.{length-drop, map-append}
use Rattle.markdown_blocks.specs.events.Events.{leaf, seen_event, seen_leaf}
use Rattle.markdown_blocks.specs.link_definitions.LinkDefinitions.{Names}
use Rattle.markdown_blocks.proofs.link_definitions.NamedLemmas.{none_later, none_named}
use Rattle.markdown_events.proofs.page.blocks_of.ReadLemmas.{leaf_given, none_in_nothing}
use Rattle.markdown_events.proofs.page.blocks_of.push_events.Goals as goal

pub returns-then-is_empty-clause-events : goal.returns-then-is_empty-clause-events
returns-then-is_empty-clause-events c =
    let content = c.args.content.now in
    let nothing : length content ≡ 0 = eqb-true (length content) 0 (sym c.is_empty.ensures ∙ c.if-is_empty.true) in
    let before = c.in_ok-push_containers.ensures in
    let left = c.push_containers.new.events in
    let block = seen_leaf c.whole.result in
    let whole = leaf_given c.args.containers.now content left block nothing before.ended before.begun
    (subst (λ part. 0 < length part.lines) (sym before.part) c.requires.some) c.whole.ensures in
    let given = before.events content (leaf block ∷ []) whole in (
      given.0,
      given.1,
      ap (map seen_event) c.in_ok-push.ensures.items ∙ map-append seen_event c.push_containers.new.blocks.items (_ ∷ []) ∙ given.2,
    )

pub returns-then-is_empty-clause-named : goal.returns-then-is_empty-clause-named
returns-then-is_empty-clause-named c =
    let content = c.args.content.now in
    let nothing : length content ≡ 0 = eqb-true (length content) 0 (sym c.is_empty.ensures ∙ c.if-is_empty.true) in
    let rest = drop c.args.events.used content in
    ([], none_named rest (none_in_nothing rest (omega (arith, nothing, length-drop c.args.events.used content))), none_later c.args.known.now)

pub returns-clause-events : goal.returns-clause-events
returns-clause-events c =
    let rest = c.in_ok-push_leaves.ensures.events in
    let given = c.in_ok-push_containers.ensures.events c.args.content.now rest.0 rest.1 in
    (given.0, given.1, rest.2 ∙ given.2)

pub returns-clause-named : goal.returns-clause-named
returns-clause-named c =
    let rest = c.in_ok-push_leaves.ensures.named in
    (rest.0, subst (λ n. Names (drop n c.args.content.now) rest.0) c.in_ok-push_containers.ensures.used rest.1, rest.2)
