use Rattle.std.proofs.Common.{true, false, sym, ◌∙◌, subst, get_or, drop}
use Rattle.markdown_scanners_tree.proofs.PrefixLemmas.{from_offset}
use Rattle.markdown_scanners_tree.proofs.SomeExactlyLemmas.{SomeExactly-from_none}
use Rattle.markdown_inlines.specs.LineBreaks.{IsLineBreak}
use Rattle.markdown_inlines.specs.Pieces.{BeginsAt, IsEscape}
use Rattle.markdown_inlines.proofs.pieces.Openings.{begins_class, break_byte_class, only_break}
use Rattle.markdown_inlines.proofs.piece_at.break_at.Goals as goal

pub returns-in_err-line_break : goal.returns-in_err-line_break
returns-in_err-line_break c = record {
  found = λ asked from. SomeExactly-from_none _ c.from_residual.ensures (λ r begins.
      (let bytes = c.args.bytes.now in
      let offset = c.args.offset in
      let same = sym (break_byte_class (get_or bytes offset 0) c.requires.opens) ∙ begins_class asked bytes from offset r.0 r.1 begins in
      only_break (λ kind. BeginsAt asked bytes from offset kind r.1 → ⊥) r.0 same
      (λ is. c.requires.no_escape (subst (IsEscape (drop offset bytes)) is.counted is))
      (λ is. c.in_err-line_break.ensures.found (record { is_hard = true; len = r.1 })
      (subst (λ t. IsLineBreak t (record { is_hard = true; len = r.1 })) (sym (from_offset bytes offset)) is))
      (λ is. c.in_err-line_break.ensures.found (record { is_hard = false; len = r.1 })
      (subst (λ t. IsLineBreak t (record { is_hard = false; len = r.1 })) (sym (from_offset bytes offset)) is))
      begins));
}
