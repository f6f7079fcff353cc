use Rattle.std.proofs.Common.{List, [], ◌∷◌, ◌++◌, map, refl, sym, ap, subst, ◌∙◌, append_assoc, append-nil}
use Rattle.markdown_blocks.specs.events.Events.{seen_event}
use Rattle.page_links.specs.definitions.Definitions.{AreDefinedIn, Defined, seen_definition}
use Rattle.page_links.proofs.definitions.definitions_of_page.Goals as goal

pub loop-found-init : goal.loop-found-init
loop-found-init c = λ later gives. (
  later,
  rw c.built.ensures at (c.new_ext-blocks.ensures.page later gives),
  λ rest are. rw (c.new-found.ensures.items) (rw c.new-outer.ensures.items at are),
)

pub loop-found-preserved : goal.loop-found-preserved
loop-found-preserved c = λ later gives.
    let event = seen_event c.in-Some.event in
    let given = rw c.in-Some.is at c.in_ok-event.ensures.event in
    let whole = c.loop-found.invariant (event ∷ later) (given later gives) in (
      whole.0,
      whole.1,
      λ rest are.
          let passed = c.in_ok-pass_event.ensures later rest are in
          let before = map seen_definition c.loop-found.found.items in
          let all = whole.2 (passed.0 ++ rest) passed.2 in
          subst (λ (found : List Defined). AreDefinedIn c.args.page.now [] whole.0 found)
          (sym (ap (λ found. found ++ rest) passed.1 ∙ append_assoc before passed.0 rest)) all,
    )

pub returns : goal.returns
returns c =
    let none = rw c.in_default.is at c.in_ok-event.ensures.none in
    let whole = c.loop-found.invariant [] none in
    let found = map seen_definition c.loop-found.found.items in record {
      events = whole.0;
      are_events = whole.1;
      are_defined = subst (λ (found : List Defined). AreDefinedIn c.args.page.now [] whole.0 found) (append-nil found) (whole.2 [] refl);
    }
