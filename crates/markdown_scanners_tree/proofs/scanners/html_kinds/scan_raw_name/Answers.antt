use Rattle.std.proofs.Common.{◌∙◌, sym, ap, take, length, arith}
use Rattle.std.proofs.lemmas.Grind.{common_steps}
use Rattle.std.specs.Str.{str_eq_ignore_ascii_case}
use Rattle.markdown_scanners_tree.proofs.scanners.html_kinds.EndLemmas.{name_next}
use Rattle.markdown_scanners_tree.proofs.scanners.html_kinds.scan_raw_name.Goals as goal

pub loop-name-preserved : goal.loop-name-preserved
loop-name-preserved c =
    name_next _ _ _ _ c.loop-name-test.true
    (ap (λ name. str_eq_ignore_ascii_case (take (length name) c.args.bytes.now) name) (sym c.as_bytes.ensures.value)
    ∙ sym c.begins_with_name.ensures.name ∙ c.if-begins_with_name.false)
    c.loop-name.invariant

pub loop-name-init : goal.loop-name-init
loop-name-init c = grind (arith, common_steps)

pub returns-clause-name : goal.returns-clause-name
returns-clause-name c = grind (arith, common_steps)
