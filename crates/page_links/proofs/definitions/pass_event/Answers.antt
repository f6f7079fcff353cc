use Rattle.std.proofs.Common.{ℕ, List, [], ◌∷◌, ◌++◌, ◌≡◌, refl, sym, subst, map, append-nil}
use Rattle.std.proofs.lemmas.Result.{on_ok_weaker}
use Rattle.markdown_blocks.specs.declared.containers.Container.{Container}
use Rattle.markdown_blocks.specs.declared.events.BlockEvent.{BlockEvent}
use Rattle.markdown_blocks.specs.events.Events.{Event, seen_event}
use Rattle.page_links.specs.definitions.Definitions.{AreDefinedIn, Defined, seen_definition}
use Rattle.page_links.proofs.definitions.pass_event.Goals as goal

-- an event is passed, and these were found before it and with it
abbrev Passed : List ℕ → List Container → List Defined → List Defined → List Event → List Defined → BlockEvent → Type 0
Passed page outer old new later rest event =
    (here : List Defined) × (new ≡ old ++ here) × AreDefinedIn page outer (seen_event event ∷ later) (here ++ rest)

pub returns-in-Start : goal.returns-in-Start
returns-in-Start c =
    let found = map seen_definition c.args.found.now.items in
    on_ok_weaker c.begin_container.result
    (λ begun later rest are.
    subst (Passed c.args.page.now c.args.outer.now.items found found later rest) (sym c.in-Start.is)
    ([], sym (append-nil found), rw begun at are))
    c.begin_container.ensures

pub returns-in-Block : goal.returns-in-Block
returns-in-Block c =
    let found = map seen_definition c.args.found.now.items in
    let more = map seen_definition c.push_definition.new.found.items in
    on_ok_weaker c.push_definition.result
    (λ pushed later rest are.
    subst (Passed c.args.page.now c.args.outer.now.items found more later rest) (sym c.in-Block.is)
    (pushed.0, pushed.1, (pushed.0, rest, rw c.deref.ensures.value at pushed.2, are, refl)))
    c.push_definition.ensures

pub returns-in-End : goal.returns-in-End
returns-in-End c = λ later rest are.
    let found = map seen_definition c.args.found.now.items in
    subst (Passed c.args.page.now c.args.outer.now.items found found later rest) (sym c.in-End.is)
    ([], sym (append-nil found), rw c.end_container.ensures at are)
