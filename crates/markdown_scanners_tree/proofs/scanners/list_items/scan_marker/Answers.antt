use Rattle.std.proofs.Common.{◌≡◌, [], refl, sym, ◌∙◌, arith}
use Rattle.std.specs.List.{prefix_len}
use Rattle.markdown_scanners_tree.specs.Bytes.{is_digit}
use Rattle.markdown_scanners_tree.proofs.PrefixLemmas.{prefix_len-parts}
use Rattle.markdown_scanners_tree.proofs.scanners.list_items.ListItemLemmas.{bullet-scanned, ordered-taken}
use Rattle.markdown_scanners_tree.proofs.scanners.list_items.scan_marker.Goals as goal

pub returns-then-begins_with_bullet-clause-found : goal.returns-then-begins_with_bullet-clause-found
returns-then-begins_with_bullet-clause-found c =
    bullet-scanned c.args.bytes.now (sym c.begins_with_bullet.ensures ∙ c.if-begins_with_bullet.true)

pub returns-else-begins_with_digit-clause-found : goal.returns-else-begins_with_digit-clause-found
returns-else-begins_with_digit-clause-found c r marker =
    let bytes = c.args.bytes.now in
    let no_digits : prefix_len is_digit bytes ≡ 0 =
    prefix_len-parts is_digit [] bytes refl (sym c.begins_with_digit.ensures ∙ c.if-begins_with_digit.false) in
    let taken = ordered-taken bytes r.0 r.1 r.2 (prefix_len is_digit bytes) refl (sym c.begins_with_bullet.ensures
    ∙ c.if-begins_with_bullet.false) marker in
    omega (arith, no_digits, taken.0)
