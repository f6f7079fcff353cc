use Rattle.std.proofs.Common.{not, refl, ◌∙◌, ap, arith, get_or, length}
use Rattle.std.specs.List.{prefix_len}
use Rattle.std.specs.Prelude.{nat_eq}
use Rattle.std.proofs.lemmas.Bool.{agree_below_at}
use Rattle.markdown_scanners_tree.specs.scanners.unescaping.private.FirstPiece.{begins_change}
use Rattle.markdown_scanners_tree.proofs.ForCallers.{is_outside, prefix_alike}
use Rattle.markdown_events.specs.declared.parts.TheConstants.{CHANGES}
use Rattle.markdown_events.proofs.parts.MeaningLemmas.{whole_prefix}
use Rattle.markdown_events.proofs.parts.means_itself.Goals as goal

pub returns : goal.returns
returns c =
    let text = c.args.text.now in
    ap (λ n. nat_eq n (length c.as_bytes-bytes.result.now)) (c.len_outside.ensures.count
    ∙ ap (prefix_len (is_outside CHANGES)) c.as_bytes-bytes.ensures.value
    ∙ prefix_alike (is_outside CHANGES) (λ b. not (begins_change b)) text text refl (λ k less.
    agree_below_at (is_outside CHANGES) (λ b. not (begins_change b)) 256 (get_or text k 0) refl (omega (arith, c.type_inv.text k))))
    ∙ ap (λ n. nat_eq (prefix_len (λ b. not (begins_change b)) text) n) (ap length c.as_bytes-bytes.ensures.value)
    ∙ whole_prefix (λ b. not (begins_change b)) text
