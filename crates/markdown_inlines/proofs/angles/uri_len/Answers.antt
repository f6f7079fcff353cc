use Rattle.std.proofs.Common.{ap, sym, ◌∙◌, subst, drop}
use Rattle.markdown_scanners_tree.proofs.PrefixLemmas.{from_offset}
use Rattle.markdown_scanners_tree.proofs.SomeExactlyLemmas.{SomeExactly-from_none}
use Rattle.markdown_inlines.specs.Pieces.{IsUriPiece}
use Rattle.markdown_scanners_tree.specs.scanners.links.Autolink.{IsUriAutolink}
use Rattle.markdown_inlines.proofs.angles.uri_len.Goals as goal

pub returns-in_err-len : goal.returns-in_err-len
returns-in_err-len c = record {
  found = SomeExactly-from_none (IsUriPiece c.args.rest.now) c.from_residual.ensures (λ len is.
      (let after = sym (from_offset c.args.rest.now 1 ∙ ap (drop 1) is.opens) in
      c.in_err-len.ensures.found is.uri (subst (λ t. IsUriAutolink t is.uri) after is.is_uri)));
}
