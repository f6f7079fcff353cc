use Rattle.std.proofs.Common.{ap, sym, ◌∙◌, ◌∷◌, ◌+◌, ◌<◌, subst, arith, drop}
use Rattle.std.proofs.lemmas.List.{drop_more}
use Rattle.html_entities.specs.Entities.{html_entity}
use Rattle.markdown_scanners_tree.specs.scanners.entities.CharacterReference.{StartsWithReference}
use Rattle.markdown_scanners_tree.proofs.PrefixLemmas.{from_offset}
use Rattle.markdown_inlines.specs.Pieces.{BeginsAt}
use Rattle.markdown_inlines.proofs.pieces.Openings.{begins_class, byte_class, only_reference}
use Rattle.markdown_inlines.proofs.pieces.References.{no_reference, some_reference}
use Rattle.markdown_inlines.proofs.piece_at.reference_at.Goals as goal

pub returns-then-len-eq0 : goal.returns-then-len-eq0
returns-then-len-eq0 c = record {
  found = λ asked from r begins.
      (let bytes = c.args.bytes.now in
      let offset = c.args.offset in
      let same = sym (ap byte_class c.requires.opens) ∙ begins_class asked bytes from offset r.0 r.1 begins in
      only_reference (λ kind. BeginsAt asked bytes from offset kind r.1 → ⊥) r.0 same
      (λ is. no_reference html_entity _ c.scan_entity-len.result.0 c.scan_entity-len.result.1 c.scan_entity-len.ensures.found c.if-len-eq0.true
      r.1 is.meaning (subst (λ t. StartsWithReference html_entity t r.1 is.meaning) (sym (from_offset bytes offset)) is.is_reference))
      begins);
}

pub returns : goal.returns
returns c = record {
  found = λ asked from.
      (let bytes = c.args.bytes.now in
      let offset = c.args.offset in
      let some : 0 < c.scan_entity-len.result.0 = omega (arith, c.if-len-eq0.false) in
      let there = some_reference html_entity _ c.scan_entity-len.result.0 c.scan_entity-len.result.1 c.scan_entity-len.ensures.found
      c.scan_entity-len.ensures.empty some in
      record {
        after = drop (offset + 1) bytes;
        meaning = there.0;
        opens = drop_more bytes offset 0 c.requires.within ∙ ap (λ b. b ∷ drop (offset + 1) bytes) c.requires.opens;
        is_reference = subst (λ t. StartsWithReference html_entity t c.scan_entity-len.result.0 there.0) (from_offset bytes offset) there.1;
      });
}
