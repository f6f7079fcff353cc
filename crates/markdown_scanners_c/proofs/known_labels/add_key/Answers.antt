use Rattle.std.proofs.Common.{◌||◌, ◌∙◌, true, refl, ap, string_bytes}
use Rattle.std.specs.BTreeSet.{contains_text}
use Rattle.std.specs.Str.{bytes_eq}
use Rattle.std.proofs.lemmas.Map.Text.{btree_set_updates_text}
use Rattle.std.proofs.lemmas.Str.{is_utf8-from_IsUtf8}
use Rattle.markdown_scanners_c.specs.Keys.{key_bytes}
use Rattle.markdown_scanners_c.proofs.KnownLabelLemmas.{chosen, no_text}
use Rattle.markdown_scanners_c.proofs.known_labels.add_key.Goals as goal

pub returns : goal.returns
returns c = λ key.
    let bytes = string_bytes c.in_ok-default_case_fold_str.field-0 in
    let is = c.in_ok-default_case_fold_str.ensures ∙ ap key_bytes c.in-Ok.ensures.cases.0 in
    rw (is_utf8-from_IsUtf8 c.args.label.now.text.now c.in-Ok.ensures.cases.1)
    (btree_set_updates_text bytes c.args.keys.now c.insert.new.self true c.in_ok-insert.ensures.updates key
    ∙ (chosen (bytes_eq bytes key) (contains_text c.args.keys.now key)
    ∙ ap (λ k. bytes_eq k key || contains_text c.args.keys.now key) is))

pub returns-in_default : goal.returns-in_default
returns-in_default c = λ key. rw (no_text c.args.label.now.text.now c.in_default.ensures.cases.0) refl
