use Rattle.std.proofs.Common.{false, ◌==◌, ◌≡◌, ap, sym, subst, ◌∙◌, arith}
use Rattle.std.proofs.lemmas.Bool.Decides.{nat_tests}
use Rattle.markdown_scanners_tree.specs.line.State.{LineState, after_space, space_within}
use Rattle.markdown_blocks.specs.containers.Containers.{Rest, asked_in, match_line}
use Rattle.markdown_blocks.specs.containers.private.Markers.{IsPlainBullet}
use Rattle.markdown_blocks.proofs.containers.PlainItems.{plain_begun, some_bullet}
use Rattle.markdown_blocks.proofs.line.Line.begins_plain_item.Goals as goal

pub returns : goal.returns
returns c = rw (← c.self.view_is) (λ yes.
    let s = (match_line c.self.inside.outer.now.containers c.self.inside.bytes.now).state in
    let there = c.rest.view_is ∙ (rw (← c.self.view_is) at c.rest-rest.ensures) in
    let columns : c.rest.inside.indent ≡ space_within 4 s = ap (λ (r : Rest). r.indent) there in
    let differs = c.if-rest-eq4.false in
    let near : (space_within 4 s == 4) ≡ false = grind (arith, nat_tests) in
    let bullet = some_bullet c.plain_bullet.result _ (sym c.is_some.ensures ∙ yes) c.plain_bullet.ensures in
    plain_begun (asked_in c.self.inside.outer.now c.self.inside.bytes.now) (space_within 4 s) (after_space 4 s) bullet.0
    (subst (IsPlainBullet bullet.0) (ap (λ (r : Rest). r.text) there) bullet.1)
    (ap (λ (z : LineState). z.pending) (sym c.self.invariant.3)
    ∙ omega (arith, c.remaining_space.ensures.pending, c.if-remaining_space-gt0.false))
    near)
