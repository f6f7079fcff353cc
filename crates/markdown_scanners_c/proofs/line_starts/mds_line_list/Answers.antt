use Rattle.std.proofs.Common.{◌≡◌, ◌≤◌, ap, sym, subst, ◌∙◌}
use Rattle.markdown_scanners_tree.specs.line.KnownBreaks.{AreTrueBreaks}
use Rattle.markdown_scanners_tree.specs.line.State.{LineState}
use Rattle.markdown_scanners_c.specs.LineStarts.{IsNext, known_breaks, state_on}
use Rattle.markdown_scanners_c.proofs.line_starts.mds_line_list.Goals as goal

pub returns-clause-next : goal.returns-clause-next
returns-clause-next c is =
    let scan = c.scan_list_marker_with_breaks-item in
    let old = c.args.start.now in
    let line : c.in-Some.line ≡ state_on c.args.bytes.now old = c.in-Some.ensures.state in
    let whole : scan.new.self.bytes ≡ c.args.bytes.now =
    scan.ensures.bytes ∙ ap (λ (s : LineState). s.bytes) line in
    let forward : old.offset ≤ scan.new.self.offset =
    subst (λ (s : LineState). s.offset ≤ scan.new.self.offset) line scan.ensures.forward in
    let kept : IsNext c.args.bytes.now old c.keep.new.self =
    subst (λ bytes. IsNext bytes old c.keep.new.self) whole (c.keep.ensures.next forward) in
    let offset : c.keep.new.self.offset ≡ scan.new.self.offset =
    ap (λ (s : LineState). s.offset) c.keep.ensures.state in
    record {
      is_state = kept.is_state;
      forward = kept.forward;
      truth = λ known.
          (let before : AreTrueBreaks c.in-Some.line.bytes (known_breaks old) c.in-Some.line.offset =
          subst (λ (s : LineState). AreTrueBreaks s.bytes (known_breaks old) s.offset) (sym line) known in
          subst (λ n. AreTrueBreaks c.args.bytes.now scan.new.breaks n) (sym offset)
          (subst (λ bytes. AreTrueBreaks bytes scan.new.breaks scan.new.self.offset) whole (scan.ensures.truth before)));
    }
