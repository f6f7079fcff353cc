use Rattle.std.proofs.Common.{refl, ◌∙◌, arith, get_or}
use Rattle.std.proofs.lemmas.Bool.{agree_below_at}
use Rattle.markdown_scanners_tree.proofs.ForCallers.{is_outside, prefix_alike}
use Rattle.markdown_inlines.specs.PieceBytes.{is_plain_or_space}
use Rattle.markdown_inlines.specs.declared.piece_scanner.TheConstants.{NEITHER_PLAIN_NOR_SPACE}
use Rattle.markdown_inlines.proofs.piece_scanner.spaced_len.Goals as goal

pub returns-clause-count : goal.returns-clause-count
returns-clause-count c =
    let bytes = c.args.bytes.now in
    c.len_outside.ensures.count
    ∙ prefix_alike (is_outside NEITHER_PLAIN_NOR_SPACE) is_plain_or_space bytes bytes refl (λ k less.
    agree_below_at (is_outside NEITHER_PLAIN_NOR_SPACE) is_plain_or_space 256 (get_or bytes k 0) refl (omega (arith, c.type_inv.bytes k)))
