use Rattle.std.proofs.Common.{[], ◌∷◌, ◌++◌, ◌≡◌, ◌∙◌, length, map, subst, sym, ap, append-nil, append_assoc, arith}
use Rattle.std.proofs.lemmas.List.{nil_from_length}
use Rattle.std.specs.List.{filter_map}
use Rattle.std.specs.Option.{option_to_list}
use Rattle.html_attributes.specs.StartTags.{ArePieces, seen_tag}
use Rattle.html_attributes.proofs.TagLemmas.{mapped_first}
use Rattle.html_attributes.proofs.tags.start_tags.Goals as goal

pub loop-rest-preserved : goal.loop-rest-preserved
loop-rest-preserved c =
    let size = length c.args.html.now in
    let passed = c.in_ok-rest.ensures.piece in
    record {
      within = omega (arith, c.loop-rest.invariant.within, c.in_ok-rest.ensures.shorter);
      all = λ later are.
          let left = subst (λ rest. ArePieces size rest later) (sym passed.2) are in
          let whole = c.loop-rest.invariant.all (passed.0 ∷ later) (passed.1, left) in (
            whole.0,
            whole.1,
            ap (λ tags. tags ++ filter_map (λ piece. piece.tag) later) passed.3
                ∙ append_assoc (map seen_tag c.loop-rest.tags.items) (option_to_list passed.0.tag) (filter_map (λ piece. piece.tag) later)
                ∙ ap (λ tags. map seen_tag c.loop-rest.tags.items ++ tags) (sym (mapped_first (λ piece. piece.tag) passed.0 later)) ∙ whole.2,
          );
    }

pub returns : goal.returns
returns c =
    let tags = map seen_tag c.loop-rest.tags.items in
    let none : c.loop-rest.rest.now ≡ [] = nil_from_length c.loop-rest.rest.now (grind (arith, c.is_empty.ensures, c.loop-rest-test.false)) in
    let whole = c.loop-rest.invariant.all [] none in
    record { pieces = whole.0; are_pieces = whole.1; are_tags = sym (append-nil tags) ∙ whole.2 }
