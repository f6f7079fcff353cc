use Rattle.std.proofs.Common.{[], ◌++◌, ap, refl, ◌∙◌, length, arith}
use Rattle.std.proofs.lemmas.List.{drop-drop, length-drop}
use Rattle.markdown_blocks.proofs.taken.TakenLemmas.{slice_after}
use Rattle.markdown_blocks.proofs.link_definitions.NamedLemmas.{none_left, whole_page, block_named, none_later, added_before}
use Rattle.markdown_blocks.proofs.link_definitions.LinkDefinitions.of_page_ext.Goals as goal

pub loop-content-init : goal.loop-content-init
loop-content-init c = (
  c.text_start-before.ensures.within,
  λ later left. (
    later,
    whole_page c.args.extensions c.args.page.now later (rw (c.new_ext-walk.ensures.none, c.text_start-before.ensures.start) at left),
    λ label. rw c.new-known.ensures.none refl,
  ),
)

pub loop-content-preserved : goal.loop-content-preserved
loop-content-preserved c =
    let same = slice_after c.args.page.now c.loop-content.before in
    let size = ap length same in
    let within = rw c.in-Some.is at c.in_ok-step.ensures.within in
    let step = rw (c.in-Some.is, same) at c.in_ok-step.ensures.step in
    let content = rw c.in-Some.is at c.in_ok-step.ensures.content in
    let added = rw c.deref.ensures.value at c.in_ok-add_content.ensures.added in (
      omega (arith, within, size, length-drop c.loop-content.before c.args.page.now, c.loop-content.invariant.0),
      λ later left.
          let whole = c.loop-content.invariant.1 (added.0 ++ later)
          (block_named c.loop-content.walk c.next_block.new.self _ c.in-Some.step c.next_block.new.content.items added.0 later
          (step [] (λ ended. refl)) content added.1 (rw drop-drop left)) in
          (whole.0, whole.1, λ label. added_before _ _ added.0 later label (added.2 label) ∙ whole.2 label),
    )

pub returns : goal.returns
returns c =
    let none = rw (c.in_default.is, slice_after c.args.page.now c.loop-content.before) at c.in_ok-step.ensures.all in
    let whole = c.loop-content.invariant.1 [] (none_left c.loop-content.walk _ (none refl)) in
    record { first = (whole.0, whole.1, λ label. none_later c.loop-content.known label ∙ whole.2 label) }
