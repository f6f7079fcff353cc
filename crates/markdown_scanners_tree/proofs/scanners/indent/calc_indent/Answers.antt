use Rattle.std.proofs.Common.{◌≡◌, ◌≤◌, ◌+◌, true, false, [], get_or, take, refl, ap, sym, subst, ◌∙◌, arith, append-nil}
use Rattle.std.proofs.lemmas.List.{take_all}
use Rattle.markdown_scanners_tree.specs.Columns.{column_after, column_past}
use Rattle.markdown_scanners_tree.specs.scanners.Indent.{goes_on, all_go_on, IsIndent}
use Rattle.markdown_scanners_tree.proofs.scanners.indent.IndentLemmas.{one_indent, column_past-more, all_go_on-more, space_goes, space_stops}
use Rattle.markdown_scanners_tree.proofs.scanners.indent.IndentLemmas.{tab_goes, tab_stops, other_stops, stopped-space, stopped-other}
use Rattle.markdown_scanners_tree.proofs.scanners.indent.calc_indent.Goals.{in-32-2, in-9}
use Rattle.markdown_scanners_tree.proofs.scanners.indent.calc_indent.Goals as goal

pub returns-in-32-clause-indent : goal.returns-in-32-clause-indent
returns-in-32-clause-indent c =
    let before = c.loop-i.invariant in
    let stops : goes_on c.args.max c.loop-i.column (get_or c.args.text.now c.loop-i.i 0) ≡ false =
    rw c.in-32.is (space_stops c.args.max c.loop-i.column c.if-column-max.true) in
    subst (IsIndent c.args.text.now c.args.max c.loop-i.i) c.if-column-max.true (stopped-space c.args.text.now
    c.args.max c.loop-i.i c.loop-i.column c.loop-i-test.true before.1 before.2 stops c.in-32.is)

pub returns-in_default-clause-indent : goal.returns-in_default-clause-indent
returns-in_default-clause-indent c =
    let before = c.loop-i.invariant in
    let stops : goes_on c.args.max c.loop-i.column (get_or c.args.text.now c.loop-i.i 0) ≡ false =
    rw c.in-9.is (tab_stops c.args.max c.loop-i.column (omega (arith, c.last_of_tab.ensures))) in
    stopped-other c.args.text.now c.args.max c.loop-i.i c.loop-i.column c.loop-i-test.true before.1 before.2 stops
    (λ space. cc)

pub returns-in_default-2-clause-indent : goal.returns-in_default-2-clause-indent
returns-in_default-2-clause-indent c =
    let before = c.loop-i.invariant in
    let no_space : ¬ (get_or c.args.text.now c.loop-i.i 0 ≡ 32) = omega arith in
    let no_tab : ¬ (get_or c.args.text.now c.loop-i.i 0 ≡ 9) = omega arith in
    stopped-other c.args.text.now c.args.max c.loop-i.i c.loop-i.column c.loop-i-test.true before.1 before.2
    (other_stops c.args.max c.loop-i.column _ no_space no_tab) no_space

pub returns-in-32-clause-only : goal.returns-in-32-clause-only
returns-in-32-clause-only c = λ other is.
    one_indent c.args.text.now c.args.max other _ is (returns-in-32-clause-indent c)

pub returns-in_default-clause-only : goal.returns-in_default-clause-only
returns-in_default-clause-only c = λ other is.
    one_indent c.args.text.now c.args.max other _ is (returns-in_default-clause-indent c)

pub returns-in_default-2-clause-only : goal.returns-in_default-2-clause-only
returns-in_default-2-clause-only c = λ other is.
    one_indent c.args.text.now c.args.max other _ is (returns-in_default-2-clause-indent c)

pub returns-clause-indent : goal.returns-clause-indent
returns-clause-indent c =
    let before = c.loop-i.invariant in
    let text = c.args.text.now in
    let whole : take c.loop-i.i text ≡ text = take_all c.loop-i.i text c.loop-i-test.false in
    record {
      prefix = text;
      rest = [];
      parts = sym (append-nil text);
      passed = ap (all_go_on c.args.max 0) (sym whole) ∙ before.2;
      stopped = refl;
      last_offset = omega (arith, before.3);
      counted = omega (arith, before.1 ∙ ap (column_past 0) whole);
    }

pub returns-clause-only : goal.returns-clause-only
returns-clause-only c = λ other is.
    one_indent c.args.text.now c.args.max other _ is (returns-clause-indent c)

pub loop-i-preserved : goal.loop-i-preserved
loop-i-preserved c =
    let before = c.loop-i.invariant in
    let byte = get_or c.args.text.now c.loop-i.i 0 in
    let moved : (goes_on c.args.max c.loop-i.column byte ≡ true)
    × (c.match-text-i.column ≡ column_after c.loop-i.column byte)
    × (c.match-text-i.column ≤ c.args.max + (c.loop-i.i + 1)) = elim c.match-text-i.branch [
      | in-32-2 w ↦ (
        rw w.in-32.is (space_goes c.args.max c.loop-i.column w.if-column-max.false),
        rw (w.in-32.is, w.column-is) (omega arith),
        omega (arith, before.0, w.column-is),
      )
      | in-9 w ↦ (
        rw w.in-9.is (tab_goes c.args.max c.loop-i.column (omega (arith, w.last_of_tab.ensures))),
        rw w.in-9.is (omega (arith, w.column-is, w.last_of_tab-column.ensures)),
        omega (arith, w.column-is),
      )
    ] in
    let here : goes_on c.args.max (column_past 0 (take c.loop-i.i c.args.text.now)) byte ≡ true =
    ap (λ k. goes_on c.args.max k byte) (sym before.1) ∙ moved.0 in (
      moved.2,
      moved.1 ∙ ap (λ k. column_after k byte) before.1
          ∙ sym (column_past-more c.args.text.now c.loop-i.i c.loop-i-test.true),
      all_go_on-more c.args.max c.args.text.now c.loop-i.i c.loop-i-test.true before.2 here,
      omega arith,
    )
