use Rattle.std.proofs.Common.{arith, ap, sym, ◌∙◌, take, subst, None}
use Rattle.std.specs.List.{last_or, slice_get}
use Rattle.std.specs.Str.{chars, IsUtf8}
use Rattle.markdown_inlines.proofs.delimiter_runs.DelimiterRunLemmas.{last_from_steps}
use Rattle.markdown_inlines.proofs.delimiter_runs.sides.Goals as goal

pub returns-clause-before : goal.returns-clause-before
returns-clause-before c =
    sym (last_from_steps c.chars.result.rest.now c.next_back-before.result _ _ (subst IsUtf8 (sym c.chars.ensures.rest) c.range.utf8)
    c.next_back-before.ensures.steps)
    ∙ ap (λ t. last_or None (chars t)) (c.chars.ensures.rest ∙ c.range.ensures.value ∙ ap (λ n. take n c.args.text.now) (omega arith))

pub returns-clause-after : goal.returns-clause-after
returns-clause-after c = c.next-after.ensures.steps.2 ∙ ap (λ t. slice_get (chars t) 0) (c.chars-2.ensures.rest ∙ c.range_from.ensures.value)
