use Rattle.std.proofs.Common.{◌≡◌, ◌≤◌, ap, sym, subst, ◌∙◌}
use Rattle.markdown_scanners_tree.specs.line.Outcome.{alert_outcome}
use Rattle.markdown_scanners_tree.specs.line.State.{LineState}
use Rattle.markdown_scanners_tree.proofs.ForCallers.{alert_forward}
use Rattle.markdown_scanners_c.specs.LineStarts.{IsNext, state_on}
use Rattle.markdown_scanners_c.proofs.line_starts.mds_line_alert.Goals as goal

pub returns-clause-next : goal.returns-clause-next
returns-clause-next c is =
    let scan = c.scan_blockquote_tag-kind in
    let before = state_on c.args.bytes.now c.args.start.now in
    let moved : scan.new.self ≡ (alert_outcome before).state =
    scan.ensures.state ∙ ap (λ s. (alert_outcome s).state) c.in-Some.ensures.state in
    let whole : scan.new.self.bytes ≡ c.args.bytes.now =
    scan.ensures.bytes ∙ ap (λ (s : LineState). s.bytes) c.in-Some.ensures.state in
    let forward : c.args.start.now.offset ≤ scan.new.self.offset =
    subst (λ (s : LineState). c.args.start.now.offset ≤ s.offset) (sym moved) (alert_forward before) in
    subst (λ bytes. IsNext bytes c.args.start.now c.keep.new.self) whole (c.keep.ensures.next forward)
