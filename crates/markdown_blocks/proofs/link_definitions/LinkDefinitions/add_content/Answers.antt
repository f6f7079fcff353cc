use Rattle.std.proofs.Common.{[], ◌++◌, ap, sym, ◌∙◌, subst, length, arith, append_assoc, append-nil}
use Rattle.std.proofs.lemmas.List.{drop-drop, length-drop}
use Rattle.markdown_blocks.specs.link_definitions.LinkDefinitions.{Names, known_before}
use Rattle.markdown_blocks.proofs.taken.TakenLemmas.{slice_after}
use Rattle.markdown_blocks.proofs.link_definitions.NamedLemmas.{front_named, names_nothing, none_named, none_later, added_before}
use Rattle.markdown_blocks.proofs.link_definitions.LinkDefinitions.add_content.Goals as goal

pub returns-then-is_empty-clause-added : goal.returns-then-is_empty-clause-added
returns-then-is_empty-clause-added c = (
  [],
  names_nothing c.args.content.now (sym c.is_empty.ensures ∙ c.if-is_empty.true),
  λ asked. none_later c.args.self.now asked,
)

pub loop-definition-init : goal.loop-definition-init
loop-definition-init c = (
  omega (arith),
  record { front = []; is_front = λ later names. names; added = λ asked. none_later c.args.self.now asked },
)

pub loop-definition-preserved : goal.loop-definition-preserved
loop-definition-preserved c =
    let same = slice_after c.args.content.now c.loop-definition.used in
    let within = c.in-Some.ensures.within in
    let size = ap length same in
    let before = c.loop-definition.invariant.1 in
    let here = c.in_ok-add_first.ensures.added in (
      omega (arith, within, size, length-drop c.loop-definition.used c.args.content.now, c.loop-definition.invariant.0),
      record {
        front = before.front ++ here.0;
        is_front = λ later names.
            let more = front_named _ c.in-Some.definition here.0 later (rw same at c.in-Some.ensures.found) (rw same at here.1) (rw drop-drop names) in
            subst (λ named. Names c.args.content.now named) (sym (append_assoc before.front here.0 later)) (before.is_front (here.0 ++ later) more);
        added = λ asked. here.2 asked ∙ added_before c.args.self.now c.loop-definition.self before.front here.0 asked (before.added asked);
      },
    )

pub returns-clause-added : goal.returns-clause-added
returns-clause-added c =
    let none = rw (slice_after c.args.content.now c.loop-definition.used) at c.in_default.ensures.found in
    let before = c.loop-definition.invariant.1 in (
      before.front ++ [],
      before.is_front [] (none_named _ none),
      λ asked. before.added asked ∙ ap (λ named. known_before c.args.self.now named asked) (sym (append-nil before.front)),
    )
