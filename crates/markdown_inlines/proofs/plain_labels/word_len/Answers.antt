use Rattle.std.proofs.Common.{refl, ◌∙◌, arith, get_or}
use Rattle.std.proofs.lemmas.Bool.{agree_below_at}
use Rattle.markdown_scanners_tree.proofs.ForCallers.{is_outside, prefix_alike}
use Rattle.markdown_scanners_tree.specs.linklabel.private.Run.{is_ordinary}
use Rattle.markdown_inlines.specs.declared.plain_labels.TheConstants.{NOT_IN_WORDS}
use Rattle.markdown_inlines.proofs.plain_labels.word_len.Goals as goal

pub returns-clause-word : goal.returns-clause-word
returns-clause-word c =
    let bytes = c.args.bytes.now in
    c.len_outside.ensures.count
    ∙ prefix_alike (is_outside NOT_IN_WORDS) is_ordinary bytes bytes refl (λ k less.
    agree_below_at (is_outside NOT_IN_WORDS) is_ordinary 256 (get_or bytes k 0) refl (omega (arith, c.type_inv.bytes k)))
