-- Each turn goes on in the half where the offset may be.
use Rattle.std.proofs.Common.{◌≡◌, ◌∙◌, ◌<◌, ◌+◌, ◌-◌, ◌/◌, [], sym, refl, arith, length, drop, get_or}
use Rattle.std.proofs.lemmas.Bool.Decides.{nat_tests}
use Rattle.std.proofs.lemmas.List.{length-take, length-drop, nil_from_length}
use Rattle.markdown_scanners_c.specs.private.Searched.{searched, no_skip}
use Rattle.markdown_scanners_c.proofs.SkipLemmas.{at_middle, goes_up, goes_down, search_finds}
use Rattle.markdown_scanners_c.proofs.skips.searched.Goals as goal

pub returns-then-skip-offset-clause-halves : goal.returns-then-skip-offset-clause-halves
returns-then-skip-offset-clause-halves c =
    let some : 0 < length c.loop-rest.rest.now = grind (arith, nat_tests, c.is_empty.ensures, c.loop-rest-test.true) in
    sym (at_middle c.loop-rest.rest.now c.args.offset some c.if-skip-offset.true) ∙ c.loop-rest.invariant.goes_on

pub returns-then-skip-offset-clause-found : goal.returns-then-skip-offset-clause-found
returns-then-skip-offset-clause-found c size stand =
    returns-then-skip-offset-clause-halves c
    ∙ search_finds (length c.args.skips.now) size 0 c.args.offset c.args.skips.now (omega arith) stand

pub loop-rest-preserved-then-skip-offset-2 : goal.loop-rest-preserved-then-skip-offset-2
loop-rest-preserved-then-skip-offset-2 c =
    let rest = c.loop-rest.rest.now in
    let some : 0 < length rest = grind (arith, nat_tests, c.is_empty.ensures, c.loop-rest-test.true) in
    record {
      fits = omega (
        arith,
        length-take (length rest - (length rest / 2 + 1)) (drop (length rest / 2 + 1) rest),
        length-drop (length rest / 2 + 1) rest,
        c.loop-rest.invariant.fits,
      );
      goes_on = sym (goes_up rest c.args.offset some c.if-skip-offset-2.true) ∙ c.loop-rest.invariant.goes_on;
    }

pub loop-rest-preserved : goal.loop-rest-preserved
loop-rest-preserved c =
    let rest = c.loop-rest.rest.now in
    let some : 0 < length rest = grind (arith, nat_tests, c.is_empty.ensures, c.loop-rest-test.true) in
    let beyond : c.args.offset < (get_or rest (length rest / 2) no_skip).offset = omega (arith, c.if-skip-offset.false, c.if-skip-offset-2.false) in
    record {
      fits = omega (arith, length-take (length rest / 2) rest, c.loop-rest.invariant.fits);
      goes_on = sym (goes_down rest c.args.offset some beyond) ∙ c.loop-rest.invariant.goes_on;
    }

pub returns-clause-found : goal.returns-clause-found
returns-clause-found c size stand =
    let rest = c.loop-rest.rest.now in
    let none : rest ≡ [] = nil_from_length rest (grind (arith, nat_tests, c.is_empty.ensures, c.loop-rest-test.false)) in
    let nothing : 0 ≡ searched rest c.args.offset = rw none refl in
    nothing ∙ c.loop-rest.invariant.goes_on
    ∙ search_finds (length c.args.skips.now) size 0 c.args.offset c.args.skips.now (omega arith) stand
