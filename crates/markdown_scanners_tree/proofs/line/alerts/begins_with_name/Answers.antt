use Rattle.std.proofs.Common.{◌≡◌, true, false, sym, ap, ◌∙◌, take, length, ◌&&◌, ◌==◌, get_or}
use Rattle.std.specs.Str.{str_eq_ignore_ascii_case}
use Rattle.markdown_scanners_tree.proofs.line.alerts.AlertLemmas.{name_then, name_too_long, case_test}
use Rattle.markdown_scanners_tree.proofs.line.alerts.begins_with_name.Goals as goal

pub returns-then-bytes-name-clause-name : goal.returns-then-bytes-name-clause-name
returns-then-bytes-name-clause-name c = sym (name_too_long c.args.name.now c.args.bytes.now c.if-bytes-name.true)

pub returns-then-eq_ignore_ascii_case-clause-name : goal.returns-then-eq_ignore_ascii_case-clause-name
returns-then-eq_ignore_ascii_case-clause-name c =
    let name = c.args.name.now in
    let bytes = c.args.bytes.now in
    let same : str_eq_ignore_ascii_case (take (length name) bytes) name ≡ true =
    sym (case_test c.eq_ignore_ascii_case.result (take (length name) bytes) name c.eq_ignore_ascii_case.ensures.test)
    ∙ c.if-eq_ignore_ascii_case.true in
    sym (name_then name bytes c.if-bytes-name.false ∙ ap (λ t. t && (get_or bytes (length name) 0 == 93)) same)

pub returns-else-eq_ignore_ascii_case-clause-name : goal.returns-else-eq_ignore_ascii_case-clause-name
returns-else-eq_ignore_ascii_case-clause-name c =
    let name = c.args.name.now in
    let bytes = c.args.bytes.now in
    let other : str_eq_ignore_ascii_case (take (length name) bytes) name ≡ false =
    sym (case_test c.eq_ignore_ascii_case.result (take (length name) bytes) name c.eq_ignore_ascii_case.ensures.test)
    ∙ c.if-eq_ignore_ascii_case.false in
    c.if-eq_ignore_ascii_case.false
    ∙ sym (name_then name bytes c.if-bytes-name.false ∙ ap (λ t. t && (get_or bytes (length name) 0 == 93)) other)
