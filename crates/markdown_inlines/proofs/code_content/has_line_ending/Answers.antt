use Rattle.std.proofs.Common.{not, refl, ◌∙◌, ap, arith, get_or, length}
use Rattle.std.specs.Prelude.{nat_lt}
use Rattle.std.proofs.lemmas.Bool.{agree_below_at}
use Rattle.markdown_scanners_tree.specs.Bytes.{is_line_ending}
use Rattle.markdown_scanners_tree.proofs.ForCallers.{is_outside, prefix_alike}
use Rattle.markdown_inlines.specs.declared.code_content.TheConstants.{LINE_ENDINGS}
use Rattle.markdown_inlines.proofs.code_content.CodeContentLemmas.{some_stops}
use Rattle.markdown_inlines.proofs.code_content.has_line_ending.Goals as goal

pub returns : goal.returns
returns c =
    let bytes = c.args.bytes.now in
    ap (λ n. nat_lt n (length bytes)) (c.len_outside.ensures.count
    ∙ prefix_alike (is_outside LINE_ENDINGS) (λ b. not (is_line_ending b)) bytes bytes refl (λ k less.
    agree_below_at (is_outside LINE_ENDINGS) (λ b. not (is_line_ending b)) 256 (get_or bytes k 0) refl
    (omega (arith, c.type_inv.bytes k))))
    ∙ some_stops is_line_ending bytes
