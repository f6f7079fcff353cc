use Rattle.std.proofs.Common.{None, ◌≡◌, ◌∙◌, sym, subst}
use Rattle.markdown_scanners_tree.specs.SomeExactly.{SomeExactly}
use Rattle.markdown_blocks.specs.containers.Containers.{Rest}
use Rattle.markdown_blocks.specs.blocks.Leaves.{IsUnderline, DefinesTerm}
use Rattle.markdown_blocks.proofs.blocks.RestLemmas.{none_found, some_found, no_end, some_end, end_inside}
use Rattle.markdown_blocks.proofs.blocks.endings.text_end.Goals.{else-is_none-via-then-is_none+else-not-defines_term, else-is_none-via-else-is_none}
use Rattle.markdown_blocks.proofs.blocks.endings.text_end.Goals as goal

pub returns-then-not-defines_term-clause-none : goal.returns-then-not-defines_term-clause-none
returns-then-not-defines_term-clause-none c =
    no_end c.args.line.now.outer c.args.line.now.bytes c.in_ok-rest.rest.now c.in_ok-rest.ensures.rest c.in_ok-rest.ensures.inside c.defines_term.result
    (rw (c.extensions-extensions.ensures, c.outer.ensures) at c.defines_term.ensures) c.underline_level-level.result c.underline_level-level.ensures
    (none_found c.underline_level-level.result _ c.is_none.ensures c.if-is_none.true) c.if-not-defines_term.true

pub returns-clause-found : goal.returns-clause-found
returns-clause-found c =
    let level = c.underline_level-level.result in
    let asked = rw c.outer.ensures at c.extensions-extensions.ensures in
    let rest : Rest = record { indent = c.rest.inside.indent; text = c.rest.inside.text.now } in
    let given : SomeExactly (λ l. IsUnderline l rest) level =
    subst (λ r. SomeExactly (λ l. IsUnderline l r) level) (sym c.rest.view_is) c.underline_level-level.ensures in
    let defines : level ≡ None → DefinesTerm c.extensions-extensions.result rest = elim c.else-is_none.branch [
      | else-is_none-via-then-is_none+else-not-defines_term w ↦ λ none. subst (DefinesTerm c.extensions-extensions.result) (sym c.rest.view_is)
          (w.defines_term.ensures.0 w.if-not-defines_term.false)
      | else-is_none-via-else-is_none w ↦ λ none. absurd (some_found level c.is_none.result c.is_none.ensures w.if-is_none.false none)
    ] in
    end_inside c.args.line.now.outer c.args.line.now.bytes rest (c.rest.view_is ∙ c.in_ok-rest.ensures.rest) c.in_ok-rest.ensures.inside
    (record { level = level; interrupts = c.interrupts.result })
    (rw asked at (some_end c.extensions-extensions.result rest level given defines)) (rw asked at c.interrupts.ensures)
