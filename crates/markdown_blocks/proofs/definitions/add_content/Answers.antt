use Rattle.std.proofs.Common.{inl, inr}
use Rattle.std.proofs.lemmas.Result.{IfOk-weaker}
use Rattle.markdown_blocks.proofs.definitions.DefinitionLemmas.{later_lines, all_but_last, first_line}
use Rattle.markdown_blocks.proofs.definitions.add_content.Goals.{in-Paragraph, in-Setext}
use Rattle.markdown_blocks.proofs.definitions.add_content.Goals as goal

pub returns : goal.returns
returns c = IfOk-weaker c.add_lines.result _ _ (λ unit given line later t.
    let h = first_line c.args.lines.now line later c.args.block.taken t c.nothing.result c.in-Some.first _ (c.nothing.ensures c.args.lines.now)
    c.in-Some.ensures.line in
    let is = rw c.new-outer.ensures at (given line h) in
    elim c.match-block.branch [
      | in-Paragraph w ↦
          let all = rw (w.count-is, later_lines c.args.lines.now line later c.in-Some.first c.args.block.taken h t) at is in
          elim w.in-Paragraph.is [
            | inl paragraph ↦ rw paragraph all
            | inr definition ↦ rw definition all
          ]
      | in-Setext w ↦ rw w.in-Setext.is (rw (
        w.count-is,
        w.saturating_sub-count.ensures,
        all_but_last c.args.lines.now line later c.in-Some.first
            c.args.block.taken h t,
      ) at is)
    ]) c.add_lines.ensures
