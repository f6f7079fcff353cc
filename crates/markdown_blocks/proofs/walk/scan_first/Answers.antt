use Rattle.std.proofs.Common.{true, false, ◌≡◌, ◌∙◌, refl, sym, drop}
use Rattle.markdown_scanners_tree.specs.scanners.TextLines.{lines_of}
use Rattle.markdown_blocks.specs.blocks.Pages.{BeginWithHeader}
use Rattle.markdown_blocks.specs.walk.Walk.{between}
use Rattle.markdown_blocks.proofs.walk.WalkLemmas.{first_kept, first_opened, no_first}
use Rattle.markdown_blocks.proofs.walk.scan_first.Goals as goal
use Rattle.markdown_blocks.proofs.walk.scan_first.Goals.{then-standing+in_default, else-standing}

pub returns-in-Some-clause-first : goal.returns-in-Some-clause-first
returns-in-Some-clause-first c = λ t.
    let old = between c.args.standing c.args.outer.now.items in
    first_kept old c.args.lines.now c.args.line.now c.args.first c.args.outer.now.items c.in_ok-opened.opened.kept _ c.in-Some.block t
    c.if-standing.true (rw (c.new-open.ensures, c.deref.ensures.value) at c.in-Some.ensures.found t) refl
    (rw c.deref-in-Some.ensures.value at c.in_ok-opened.ensures.kept) (rw c.deref-in-Some.ensures.value at c.in_ok-opened.ensures.rest)

pub returns-clause-first : goal.returns-clause-first
returns-clause-first c = λ t.
    let old = between c.args.standing c.args.outer.now.items in
    let rest = lines_of (drop c.args.first.bytes c.args.lines.now) in
    let none : ¬ BeginWithHeader old (lines_of c.args.lines.now) = elim c.if-standing.branch [
      | then-standing+in_default w ↦ no_first old (lines_of c.args.lines.now) c.args.line.now rest t.parts
          (λ paragraph. rw (w.new-open.ensures, w.deref.ensures.value) at w.in_default.ensures.none t)
      | else-standing w ↦ no_first old (lines_of c.args.lines.now) c.args.line.now rest t.parts
          (λ paragraph. let both : true ≡ false = sym paragraph ∙ w.if-standing.false in cc)
    ] in
    first_opened old c.args.lines.now c.args.line.now c.open_containers.new.outer.items c.in_ok-opened-2.opened.kept _ c.in_ok-block.block
    (c.in_ok-opened-2.ensures.opening c.args.standing.is_after_paragraph)
    (rw (c.new-inner.ensures, c.deref-2.ensures.value) at (c.in_ok-block.ensures c.args.line.now t)) none
