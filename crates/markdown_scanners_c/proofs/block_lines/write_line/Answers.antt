use Rattle.std.proofs.Common.{[], inl, inr, refl, ap, ◌∙◌, subst}
use Rattle.markdown_scanners_c.specs.BlockLines.{if_returned, opened_returned, state_of}
use Rattle.markdown_scanners_c.specs.Buffer.{IsWritten}
use Rattle.markdown_scanners_c.specs.declared.block_lines.LineBlock.{LineBlock}
use Rattle.markdown_scanners_c.specs.declared.block_lines.OpenBlocks.{OpenBlocks}
use Rattle.markdown_scanners_c.proofs.OpenLemmas.{kept_within}
use Rattle.markdown_scanners_c.proofs.block_lines.write_line.Goals as goal

pub write_step-returned-requires : goal.write_step-returned-requires
write_step-returned-requires c =
    let is = rw c.in-Ok-Some.field-0-is at c.in-Ok-Some.ensures.step in
    rw c.containers.ensures.containers
    (kept_within c.args.walk c.next_block.new.self c.args.lines.now c.in-Ok-Some.step (is [] (λ ended. refl)))

pub returns-in-Ok-Some-clause-line : goal.returns-in-Ok-Some-clause-line
returns-in-Ok-Some-clause-line c =
    let is = rw c.in-Ok-Some.field-0-is at c.in-Ok-Some.ensures.step in
    let page = c.args.page.now in
    let kept = rw (c.state_of-state.ensures, c.is_after_term.ensures.term, c.is_after_paragraph.ensures.paragraph) at c.keep_open.ensures in
    elim c.write_step-returned.ensures [
      | inl h ↦ inl (
        h.0,
        kept ∙ ap (λ (t : LineBlock). if_returned t (record page { depth = t.depth; state = state_of c.next_block.new.self.term c.next_block.new.self.paragraph }) page) h.0,
        h.1,
        h.2,
      )
      | inr h ↦ inr (inr (
        c.in-Ok-Some.step,
        c.next_block.new.self,
        is,
        h.0,
        h.1,
        kept,
        subst (λ cs. IsWritten (opened_returned c.in-Ok-Some.step cs) c.args.containers.now c.write_step-returned.new.containers c.write_step-returned.result.status
            c.write_step-returned.result.depth) c.containers.ensures.containers h.2,
      ))
    ]
