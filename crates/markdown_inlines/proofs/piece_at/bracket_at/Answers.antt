use Rattle.std.proofs.Common.{◌≡◌, true, false, sym, ◌∙◌, get_or}
use Rattle.markdown_inlines.specs.Pieces.{BeginsAt}
use Rattle.markdown_inlines.proofs.pieces.Openings.{begins_class, bracket_class, only_bracket}
use Rattle.markdown_inlines.proofs.piece_at.bracket_at.Goals as goal

pub returns-else-stands_at-3 : goal.returns-else-stands_at-3
returns-else-stands_at-3 c = record {
  found = λ from r begins.
      (let bytes = c.args.bytes.now in
      let offset = c.args.offset in
      let same = sym (bracket_class (get_or bytes offset 0) c.requires.opens) ∙ begins_class c.args.extensions bytes from offset r.0 r.1 begins in
      only_bracket (λ kind. BeginsAt c.args.extensions bytes from offset kind r.1 → ⊥) r.0 same
      (λ is. (let lost : true ≡ false = sym is.0 ∙ sym c.stands_at.ensures ∙ c.if-stands_at.false in cc))
      (λ is. (let lost : true ≡ false = sym is.0 ∙ sym c.stands_at-else-stands_at.ensures ∙ c.if-stands_at-2.false in cc))
      (λ is. (let lost : true ≡ false = sym is.0 ∙ sym c.stands_at-else-stands_at-2.ensures ∙ c.if-stands_at-3.false in cc))
      begins);
}
