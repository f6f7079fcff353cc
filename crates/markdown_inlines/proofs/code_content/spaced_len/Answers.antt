use Rattle.std.proofs.Common.{◌≡◌, ◌+◌, ◌-◌, ◌∙◌, ap, arith, length, take, drop}
use Rattle.std.proofs.lemmas.List.{drop-drop}
use Rattle.markdown_scanners_tree.proofs.PrefixLemmas.{from_offset}
use Rattle.markdown_inlines.specs.CodeContent.{with_spaces}
use Rattle.markdown_inlines.proofs.code_content.spaced_len.Goals as goal

pub loop-i-preserved : goal.loop-i-preserved
loop-i-preserved c =
    let bytes = c.args.bytes.now in
    let i = c.loop-i.i in
    let here = from_offset bytes i in
    let first : length (with_spaces (take (length bytes - i) (drop i bytes))) ≡ length (with_spaces (drop i bytes)) =
    ap (λ t. length (with_spaces t)) here in
    let rest : length (with_spaces (drop 1 (take (length bytes - i) (drop i bytes)))) ≡ length (with_spaces (drop (i + 1) bytes)) =
    ap (λ t. length (with_spaces (drop 1 t))) here ∙ ap (λ t. length (with_spaces t)) (drop-drop 1 i bytes) in (
      omega (arith, c.first_len-len.ensures.at_most_one, c.loop-i.invariant.0),
      omega (arith, c.first_len-len.ensures.count, first, rest, c.loop-i.invariant.1),
    )
