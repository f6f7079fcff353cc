use Rattle.std.proofs.Common.{◌≡◌, ◌+◌, ◌-◌, drop, ap, sym, ◌∙◌, arith}
use Rattle.std.proofs.lemmas.List.{drop-drop}
use Rattle.std.proofs.lemmas.Grind.{common_steps, elements}
use Rattle.markdown_scanners_tree.specs.scanners.Breaks.{is_thematic_break}
use Rattle.markdown_scanners_tree.proofs.PrefixLemmas.{from_offset}
use Rattle.markdown_scanners_tree.proofs.line.known_breaks.KnownBreaks.begins_break.Goals as goal

pub returns-in-Err-clause-truth : goal.returns-in-Err-clause-truth
returns-in-Err-clause-truth c known later not_before = (
  λ k from before.
      let bytes = c.args.bytes.now in
      let offset = c.args.offset in
      let rest = from_offset bytes offset in
      let at : drop (k - offset) (drop offset bytes) ≡ drop k bytes =
      (let sum : offset + (k - offset) ≡ k = omega arith in
      drop-drop (k - offset) offset bytes ∙ ap (λ n. drop n bytes) sum) in
      ap is_thematic_break (sym (ap (drop (k - offset)) rest ∙ at))
      ∙ c.in-Err.ensures.none_before (k - offset) (omega arith),
  known.1,
)

pub returns-in-Ok-clause-answer : goal.returns-in-Ok-clause-answer
returns-in-Ok-clause-answer c = grind (arith, common_steps)

pub returns-in-Ok-clause-truth : goal.returns-in-Ok-clause-truth
returns-in-Ok-clause-truth c = grind (arith, elements)

pub returns-in-Ok-clause-learnt : goal.returns-in-Ok-clause-learnt
returns-in-Ok-clause-learnt c = grind (arith, common_steps)

pub returns-in-Err-clause-answer : goal.returns-in-Err-clause-answer
returns-in-Err-clause-answer c = grind (arith, common_steps)

pub returns-in-Err-clause-learnt : goal.returns-in-Err-clause-learnt
returns-in-Err-clause-learnt c = grind (arith, common_steps)
