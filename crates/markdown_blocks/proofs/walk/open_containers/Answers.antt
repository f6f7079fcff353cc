use Rattle.std.proofs.Common.{[], ◌∷◌, false, length, ap, ◌∙◌, arith, length-append}
use Rattle.markdown_blocks.specs.containers.Containers.{Rest}
use Rattle.markdown_blocks.proofs.taken.TakenLemmas.{slice_after}
use Rattle.markdown_blocks.proofs.walk.WalkLemmas.{opening-any, opening-first, opening-next, opening-done}
use Rattle.markdown_blocks.proofs.walk.open_containers.Goals as goal

pub loop-container-init : goal.loop-container-init
loop-container-init c =
    let columns = ap (λ (r : Rest). r.indent) c.scan_rest-rest.ensures.rest in (
      c.scan_rest-rest.ensures.bytes,
      grind (arith, columns),
      opening-first (record { extensions = c.args.extensions; containers = c.args.outer.now.items; term = c.args.is_after_term; paragraph = false }) c.args.line.now
          c.keep.new.outer.items _ c.go_on-kept.result.0 c.scan_rest-rest.result
          c.go_on-kept.result.1 c.scan_rest-rest.new.start c.asked_first-asked.result (c.len-count.ensures ∙ c.keep.new.outer.ok.0)
          (rw (c.new.ensures, c.deref.ensures.value) at c.go_on-kept.ensures.kept) c.in_ok-keep.ensures
          (rw (c.new.ensures, c.deref.ensures.value) at c.go_on-kept.ensures.state) c.scan_rest-rest.ensures.rest c.scan_rest-rest.ensures.offset
          (rw (c.deref-2.ensures.value, slice_after c.args.outer.now.items c.go_on-kept.result.0) at c.asked_first-asked.ensures),
      omega (arith, c.len-count.ensures, c.keep.new.outer.ok.0),
      c.scan_rest-rest.ensures.within,
    )

pub loop-container-preserved : goal.loop-container-preserved
loop-container-preserved c =
    let columns = ap (λ (r : Rest). r.indent) c.scan_rest-rest-in-Some.ensures.rest in
    let grown = ap length c.in_ok-push.ensures.items ∙ length-append c.loop-container.outer.items (c.in-Some.container ∷ []) in (
      c.scan_rest-rest-in-Some.ensures.bytes,
      grind (arith, columns),
      rw c.without_terms-asked.ensures (opening-next (record {
        extensions = c.args.extensions;
        containers = c.args.outer.now.items;
        term = c.args.is_after_term;
        paragraph = false;
      }) c.args.line.now
          c.loop-container.outer.items
          c.push.new.self.items _ c.loop-container.rest
          c.scan_rest-rest-in-Some.result c.loop-container.start c.scan_container.new.start c.scan_rest-rest-in-Some.new.start
          c.in-Some.container c.loop-container.asked c.loop-container.invariant.2 (rw (ap (λ (r : Rest). r.indent) c.rest.view_is) at c.in-Some.ensures.found)
          c.in_ok-push.ensures.items c.scan_rest-rest-in-Some.ensures.rest
          c.scan_rest-rest-in-Some.ensures.offset),
      omega (arith, grown, c.loop-container.invariant.3, c.in-Some.ensures.rises, c.scan_rest-rest-in-Some.ensures.forward),
      c.scan_rest-rest-in-Some.ensures.within,
    )

pub returns-clause-opening : goal.returns-clause-opening
returns-clause-opening c = λ paragraph.
    opening-any c.args.extensions c.args.outer.now.items c.args.is_after_term paragraph c.args.line.now c.loop-container.outer.items _ c.loop-container.rest
    (opening-done (record {
      extensions = c.args.extensions;
      containers = c.args.outer.now.items;
      term = c.args.is_after_term;
      paragraph = false;
    }) c.args.line.now
    c.loop-container.outer.items _ c.loop-container.rest c.loop-container.start c.loop-container.asked
    c.loop-container.invariant.2 (rw (ap (λ (r : Rest). r.indent) c.rest.view_is) at c.in_default.ensures.none))

pub returns-clause-few : goal.returns-clause-few
returns-clause-few c = omega (arith, c.loop-container.invariant.3, c.loop-container.invariant.4)
