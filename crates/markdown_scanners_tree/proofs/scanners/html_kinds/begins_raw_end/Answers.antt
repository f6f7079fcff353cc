use Rattle.std.proofs.Common.{◌∙◌}
use Rattle.markdown_scanners_tree.proofs.scanners.html_kinds.EndLemmas.{raw_end-found}
use Rattle.markdown_scanners_tree.proofs.scanners.html_kinds.begins_raw_end.Goals as goal

pub returns-in-Some-scan_raw_name : goal.returns-in-Some-scan_raw_name
returns-in-Some-scan_raw_name c =
    c.begins_with_bracket.ensures
    ∙ raw_end-found c.args.bytes.now c.in-Some.name.now c.in-Some-scan_raw_name.length c.in-Some.ensures.cases.0
    c.in-Some.ensures.cases.1 c.in-Some-scan_raw_name.ensures.name
