use Rattle.std.proofs.Common.{◌+◌, ◌++◌, ◌∙◌, ap, append_assoc, drop, string_bytes, sym}
use Rattle.std.proofs.lemmas.List.{at_drop_more}
use Rattle.page_tables.specs.Reports.{change_lines}
use Rattle.page_tables.proofs.reports.push_changes.Goals as goal

pub loop-head-preserved : goal.loop-head-preserved
loop-head-preserved c =
    let lines = change_lines c.args.name.now c.args.page.now in
    let text = string_bytes c.loop-head.text in record {
      is_line = c.push_change.ensures.line;
      written = ap (λ t. t ++ lines (drop (c.loop-head.head-index + 1) c.args.heads.now)) c.in_ok-push_change.ensures.written
          ∙ append_assoc text _ (lines (drop (c.loop-head.head-index + 1) c.args.heads.now))
          ∙ ap (λ l. text ++ l) (sym (at_drop_more lines c.args.heads.now c.loop-head.head-index _ c.loop-head-test.true))
          ∙ c.loop-head.invariant.written;
    }
