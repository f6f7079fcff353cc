use Rattle.std.proofs.Common.{List, [], ◌≡◌, append-nil, map, refl, subst, sym, true, ◌∙◌}
use Rattle.html_attributes.specs.Attributes.{AreAttributes, Written, after, between, is_end, seen_attribute}
use Rattle.html_attributes.proofs.attributes.attributes_at.Goals as goal

pub returns-clause-attributes : goal.returns-clause-attributes
returns-clause-attributes c =
    let rest = c.loop-rest.rest.now in
    let end : is_end rest ≡ true = sym c.is_end.ensures ∙ c.loop-rest-test.false in
    subst (λ (attributes : List Written). AreAttributes (after between c.args.bytes.now) attributes rest)
    (append-nil (map seen_attribute c.loop-rest.attributes.items)) (c.loop-rest.invariant.all [] rest (end, refl))
