use Rattle.std.proofs.Common.{ap, sym, ◌∙◌, subst, drop}
use Rattle.markdown_scanners_tree.proofs.PrefixLemmas.{from_offset}
use Rattle.markdown_scanners_tree.proofs.SomeExactlyLemmas.{SomeExactly-from_none}
use Rattle.markdown_inlines.specs.Pieces.{IsEmailPiece}
use Rattle.markdown_inlines.specs.Emails.{IsEmailAutolink}
use Rattle.markdown_inlines.proofs.angles.email_len.Goals as goal

pub returns-in_err-len : goal.returns-in_err-len
returns-in_err-len c = record {
  found = SomeExactly-from_none (IsEmailPiece c.args.rest.now) c.from_residual.ensures (λ len is.
      (let after = sym (from_offset c.args.rest.now 1 ∙ ap (drop 1) is.opens) in
      c.in_err-len.ensures.found is.address (subst (λ t. IsEmailAutolink t is.address) after is.is_address)));
}
