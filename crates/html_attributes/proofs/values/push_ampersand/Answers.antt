use Rattle.std.proofs.Common.{ℕ, List, ◌∙◌, ◌∷◌, [], ◌++◌, ap, sym}
use Rattle.markdown_values.specs.strings.Text.{cow_text}
use Rattle.html_attributes.proofs.ValueLemmas.{means_itself, means_reference, none_by_scan}
use Rattle.html_attributes.proofs.values.push_ampersand.Goals as goal

pub returns-in_default-clause-first : goal.returns-in_default-clause-first
returns-in_default-clause-first g c =
    let known = g.E.Entities.known c.args.entities.now in
    let value = c.args.value.now in
    let none = rw c.in_default.is at c.scan_entity-count.ensures.found in
    let means = means_itself known value c.requires.some (none_by_scan known value none) in
    let rest = ap (λ (rest : List ℕ). (38 ∷ []) ++ rest) (sym c.bytes_after.ensures.rest) in
    (record { source = 38 ∷ []; meaning = 38 ∷ [] }, rw c.requires.begins at means.0, rw c.requires.begins at means.1 ∙ rest, c.in_ok-push.ensures.items)

pub returns-clause-first : goal.returns-clause-first
returns-clause-first g c =
    let found = rw c.in-Some.is at c.scan_entity-count.ensures.found in
    let n = c.scan_entity-count.result.0 in
    let meaning = cow_text c.in-Some.text in
    let means = means_reference (g.E.Entities.known c.args.entities.now) c.args.value.now n meaning c.requires.begins found in (
      record { source = found.source; meaning = meaning },
      means.0,
      means.1 ∙ ap (λ (rest : List ℕ). found.source ++ rest) (sym c.bytes_after-2.ensures.rest),
      c.in_ok-push_text.ensures,
    )
