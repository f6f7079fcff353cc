use Rattle.std.proofs.Common.{sym, ap, ◌≡◌, ◌+◌, ◌∙◌, arith, drop, length, subst, true}
use Rattle.std.specs.List.{list_all}
use Rattle.markdown_blocks.specs.containers.Containers.{LineMatch, OpenContainers, goes_on_blank}
use Rattle.markdown_blocks.proofs.containers.ContainerLemmas.{plain_rest}
use Rattle.markdown_blocks.proofs.containers.go_on_in.Goals as goal

pub returns-then-kept-outer-clause-kept : goal.returns-then-kept-outer-clause-kept
returns-then-kept-outer-clause-kept c =
    let same = plain_rest c.loop-rest.blank c.outer.inside.plain c.loop-rest.kept c.args.outer.now.containers c.loop-rest.rest.now c.loop-rest.start
    c.if-blank.true (omega (arith, c.if-kept-outer.true))
    (subst (λ cs. list_all goes_on_blank (drop c.outer.inside.plain cs) ≡ true) (ap (λ (o : OpenContainers). o.containers) c.outer.view_is) c.outer.invariant)
    c.loop-rest.invariant.4 in
    ap (λ (o : OpenContainers). length o.containers) c.outer.view_is ∙ sym (c.loop-rest.invariant.0 ∙ ap (λ (b : LineMatch). c.loop-rest.kept + b.kept) same
    ∙ c.loop-rest.invariant.3)

pub returns-then-kept-outer-clause-state : goal.returns-then-kept-outer-clause-state
returns-then-kept-outer-clause-state c =
    let same = plain_rest c.loop-rest.blank c.outer.inside.plain c.loop-rest.kept c.args.outer.now.containers c.loop-rest.rest.now c.loop-rest.start
    c.if-blank.true (omega (arith, c.if-kept-outer.true))
    (subst (λ cs. list_all goes_on_blank (drop c.outer.inside.plain cs) ≡ true) (ap (λ (o : OpenContainers). o.containers) c.outer.view_is) c.outer.invariant)
    c.loop-rest.invariant.4 in
    sym (c.loop-rest.invariant.1 ∙ ap (λ (b : LineMatch). b.state) same)
