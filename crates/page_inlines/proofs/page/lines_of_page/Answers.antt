use Rattle.std.proofs.Common.{[], ◌++◌, length, drop, string_bytes, refl, sym, ap, subst, arith, append-nil}
use Rattle.std.proofs.lemmas.List.{drop-drop, length-drop}
use Rattle.markdown_blocks.proofs.taken.TakenLemmas.{slice_after}
use Rattle.markdown_inlines.specs.Inlines.{Setting}
use Rattle.page_inlines.specs.Labels.{labels_of}
use Rattle.page_inlines.specs.Printed.{IsPrinted}
use Rattle.page_inlines.proofs.PageLemmas.{none_left, whole_page, block_text}
use Rattle.page_inlines.proofs.page.lines_of_page.Goals as goal

pub loop-content-init : goal.loop-content-init
loop-content-init c = record {
  within = c.text_start-bytes.ensures.within;
  few = omega arith;
  goes = λ later left.
      let known = labels_of c.in_ok-of_page.field-0.definitions in
      subst (λ t. IsPrinted c.args.asked c.args.page.now (t ++ later)) (sym c.new.ensures.bytes)
      (whole_page c.args.asked known c.args.page.now later c.in_ok-of_page.ensures
      (rw (c.new_ext-walk.ensures.none, c.text_start-bytes.ensures.start) at left));
}

pub loop-content-preserved : goal.loop-content-preserved
loop-content-preserved c =
    let page = c.args.page.now in
    let same = slice_after page c.loop-content.bytes in
    let size = ap length same in
    let within = rw c.in-Some.is at c.in_ok-step.ensures.within in
    let step = rw (c.in-Some.is, same) at c.in_ok-step.ensures.step in
    let gathered = rw c.in-Some.is at c.in_ok-step.ensures.content in
    let printed =
    rw (c.containers.ensures.containers, c.deref.ensures.value, c.new-events.ensures, c.containers-depth.ensures.containers)
    at c.in_ok-push_block.ensures in
    record {
      within = omega (arith, within, size, length-drop c.loop-content.bytes page, c.loop-content.invariant.within);
      few = omega (arith, c.loop-content.invariant.few, c.in-Some.step.block.taken.few);
      goes = λ later left.
          let setting : Setting = record { asked = c.args.asked; known = labels_of c.in_ok-of_page.field-0.definitions } in
          let whole = block_text setting page c.loop-content.walk c.next_block.new.self (drop c.loop-content.bytes page) c.in-Some.step
          (step [] (λ ended. refl)) (record { lines = c.loop-content.lines; bytes = c.loop-content.bytes; few = c.loop-content.invariant.few })
          c.next_block.new.content.items gathered (string_bytes c.loop-content.out.text) (string_bytes c.push_block.new.out.text)
          later printed (rw drop-drop left) in
          subst (IsPrinted c.args.asked page) whole.2 (c.loop-content.invariant.goes whole.0 whole.1);
    }

pub returns-in_default : goal.returns-in_default
returns-in_default c =
    let none = rw (c.in_default.is, slice_after c.args.page.now c.loop-content.bytes) at c.in_ok-step.ensures.all in
    subst (IsPrinted c.args.asked c.args.page.now) (append-nil (string_bytes c.loop-content.out.text))
    (c.loop-content.invariant.goes [] (none_left _ _ _ _ c.loop-content.walk _ (none refl)))
