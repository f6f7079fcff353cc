use Rattle.std.proofs.Common.{◌≡◌, ◌-◌, ◌||◌, ap, ◌∙◌, arith, drop, length, sym, take}
use Rattle.std.specs.List.{list_any}
use Rattle.std.proofs.lemmas.List.{length-drop, take_all}
use Rattle.markdown_scanners_tree.specs.Bytes.{is_line_ending}
use Rattle.markdown_scanners_tree.proofs.PrefixLemmas.{from_offset}
use Rattle.markdown_inlines.proofs.code_content.EightLanes.{both_are_all}
use Rattle.markdown_inlines.proofs.code_content.some_have_ending.Goals as goal

pub returns-else-first : goal.returns-else-first
returns-else-first c =
    let bytes = c.args.bytes.now in
    let m = length bytes - 8 in
    let last : take 8 (take (length bytes - m) (drop m bytes)) ≡ drop m bytes =
    ap (take 8) (from_offset bytes m) ∙ take_all 8 (drop m bytes) (omega (arith, length-drop m bytes, c.requires.many)) in
    ap (λ t. t || c.eight_have_ending-last.result) (sym c.if-first.false ∙ c.eight_have_ending-first.ensures)
    ∙ ap (λ t. list_any is_line_ending (take 8 bytes) || t) (c.eight_have_ending-last.ensures ∙ ap (list_any is_line_ending) last)
    ∙ both_are_all is_line_ending bytes c.requires.many c.requires.few
