use Rattle.std.proofs.Common.{not, refl, ◌∙◌, arith, get_or}
use Rattle.std.proofs.lemmas.Bool.{agree_below_at}
use Rattle.markdown_scanners_tree.proofs.ForCallers.{is_outside, prefix_alike}
use Rattle.markdown_html.specs.Escapes.{is_special}
use Rattle.markdown_html.specs.declared.escapes.TheConstants.{SPECIAL}
use Rattle.markdown_html.proofs.escapes.plain_len.Goals as goal

pub returns : goal.returns
returns c =
    let bytes = c.args.bytes.now in
    c.len_outside.ensures.count
    ∙ prefix_alike (is_outside SPECIAL) (λ b. not (is_special b)) bytes bytes refl (λ k less.
    agree_below_at (is_outside SPECIAL) (λ b. not (is_special b)) 256 (get_or bytes k 0) refl (omega (arith, c.type_inv.bytes k)))
