use Rattle.std.proofs.Common.{◌≡◌, ◌∙◌, ℕ, ◌<◌, false, not, List, ap, arith}
use Rattle.std.specs.List.{prefix_len}
use Rattle.std.proofs.lemmas.Bool.Decides.{nat_tests}
use Rattle.markdown_scanners_tree.specs.Bytes.{is_white_space}
use Rattle.markdown_html.proofs.RunLemmas.{cut_after}
use Rattle.markdown_html.proofs.blocks.language_of.Goals as goal

white_space_low : (b : ℕ) → not (is_white_space b) ≡ false → b < 128
white_space_low b space = grind (arith, nat_tests)

abbrev word_len : List ℕ → ℕ
word_len bytes = prefix_len (λ b. not (is_white_space b)) bytes

pub range-requires-clause-end_boundary : goal.range-requires-clause-end_boundary
range-requires-clause-end_boundary c =
    cut_after (λ b. not (is_white_space b)) white_space_low c.args.info.now c.word_len.result
    (c.word_len.ensures ∙ ap word_len c.as_bytes.ensures.value)
