use Rattle.std.proofs.Common.{[], ◌∷◌, ◌++◌, ◌+◌, ◌<◌, ◌^◌, ◌≡◌, ap, append-nil, arith, length, map}
use Rattle.std.proofs.Common.{refl, string_bytes, subst, sym, take, ◌∙◌}
use Rattle.std.proofs.lemmas.List.{at_drop_all, length-map, length-take, map_more}
use Rattle.page_links.specs.anchors.Anchors.{anchor_of, anchors_of, is_among}
use Rattle.page_links.specs.anchors.private.Counts.{AreCounts}
use Rattle.page_links.proofs.AnchorLemmas.{none_counted, one_more_made}
use Rattle.page_links.proofs.anchors.Anchors.of_slugs.Goals as goal

pub loop-slug-init : goal.loop-slug-init
loop-slug-init c = (none_counted c.new-counts.result c.new-counts.ensures.empty, [], rw c.new-anchors.ensures (λ text. refl), refl)

pub loop-slug-preserved : goal.loop-slug-preserved
loop-slug-preserved c =
    let slugs = c.args.slugs.now in
    let i = c.loop-slug.slug-index in
    let slug = c.slug-item.result in
    let before = map string_bytes (take i slugs) in
    let so_far = c.loop-slug.invariant in
    let short : length before + 1 < 2 ^ 64 = omega (arith, length-map (take i slugs) string_bytes, length-take i slugs, c.loop-slug-test.true) in
    let count = (rw c.as_str.ensures.value at c.in_ok-count.ensures) before so_far.0 short in
    let passed : map string_bytes (take (i + 1) slugs) ≡ before ++ string_bytes slug ∷ [] =
    map_more string_bytes slugs i slug c.loop-slug-test.true ∙ ap (λ it. before ++ string_bytes it ∷ []) (sym c.slug-item.is) in
    let anchor = (rw c.as_str-in-loop-slug.ensures.value at c.in_ok-anchor.ensures) ∙ ap (anchor_of (string_bytes slug)) count.0 in (
      subst (AreCounts c.count_one.new.counts) (sym passed) count.1,
      so_far.1 ++ string_bytes c.in_ok-anchor.anchor ∷ [],
      c.in_ok-add.ensures so_far.1 so_far.2,
      one_more_made slugs i slug (string_bytes c.in_ok-anchor.anchor) so_far.1 (anchors_of [] (map string_bytes slugs)) c.loop-slug-test.true
          c.slug-item.is anchor so_far.3,
    )

pub returns : goal.returns
returns c = λ text.
    let slugs = c.args.slugs.now in
    let i = c.loop-slug.slug-index in
    let so_far = c.loop-slug.invariant in
    let none_left = at_drop_all (λ rest. so_far.1 ++ anchors_of (map string_bytes (take i slugs)) (map string_bytes rest)) slugs i c.loop-slug-test.false in
    let all = sym (append-nil so_far.1) ∙ sym none_left ∙ so_far.3 in
    so_far.2 text ∙ ap (λ anchors. is_among anchors text) all
