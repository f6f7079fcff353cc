use Rattle.std.proofs.Common.{ℕ, ◌+◌, ◌-◌, ◌≤◌, ap, length, sym, subst, refl, arith}
use Rattle.std.specs.Prelude.{◌++◌, ◌==◌}
use Rattle.markdown_blocks.specs.content.Content.{IsRunOf, Placed}
use Rattle.markdown_blocks.specs.declared.content.Run.{Run}
use Rattle.markdown_blocks.proofs.content.SegmentLemmas.{byte_run, column_run, seen}
use Rattle.markdown_blocks.proofs.content.Content.run_at.Goals as goal

pub returns-then-further-segment-clause-run : goal.returns-then-further-segment-clause-run
returns-then-further-segment-clause-run c =
    let i = c.self.inside in
    let e = c.segment_at-end.ensures in
    let within : c.segment_at-end.result.1 ≤ length (i.lent.now ++ i.built.items) = omega (arith, e.within, ap length c.text.ensures, ap (λ (v : Placed). length v.text) c.self.view_is) in
    let text = i.lent.now ++ i.built.items in
    let lent = length i.built.items == 0 in
    let run : ℕ → Run = λ source. record { start = c.args.offset; end = c.args.offset + 1; source = source } in
    subst (λ (v : Placed). IsRunOf v (run c.saturating_sub.result)) c.self.view_is
    (subst (λ source. IsRunOf (seen lent text i.first i.later.items) (run source)) (sym c.saturating_sub.ensures)
    (column_run lent (i.lent.now ++ i.built.items) i.first i.later.items c.args.offset c.segment_at-end.result.0 c.segment_at-end.result.1
    e.begins e.ends within (rw c.deref.ensures.value at e.offsets) c.if-further-segment.true))

pub returns-clause-run : goal.returns-clause-run
returns-clause-run c =
    let i = c.self.inside in
    let e = c.segment_at-end.ensures in
    let within : c.segment_at-end.result.1 ≤ length (i.lent.now ++ i.built.items) = omega (arith, e.within, ap length c.text.ensures, ap (λ (v : Placed). length v.text) c.self.view_is) in
    let s = c.segment_at-end.result.0 in
    let begin = c.args.offset - (c.args.offset - s.offset - s.columns) in
    let run : Run = record { start = begin; end = c.segment_at-end.result.1; source = s.source } in
    subst (λ (v : Placed). IsRunOf v run) c.self.view_is
    (byte_run (length i.built.items == 0) (i.lent.now ++ i.built.items) i.first i.later.items c.args.offset c.segment_at-end.result.0 c.segment_at-end.result.1
    e.begins e.ends within (rw c.deref.ensures.value at e.offsets) begin refl c.if-further-segment.false)
