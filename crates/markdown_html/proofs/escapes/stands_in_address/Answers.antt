use Rattle.std.proofs.Common.{refl, arith, not, ◌∙◌, ap}
use Rattle.std.proofs.lemmas.Bool.{agree_below_at}
use Rattle.markdown_scanners_tree.specs.ByteSets.{has_byte}
use Rattle.markdown_html.specs.Escapes.{stands_in_address}
use Rattle.markdown_html.specs.declared.escapes.TheConstants.{ENCODED}
use Rattle.markdown_html.proofs.escapes.stands_in_address.Goals as goal

pub returns : goal.returns
returns c =
    ap not c.contains.ensures ∙ agree_below_at (λ b. not (has_byte ENCODED b)) stands_in_address 256 c.args.byte refl (omega arith)
