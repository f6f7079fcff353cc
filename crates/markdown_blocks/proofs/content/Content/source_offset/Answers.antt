use Rattle.std.proofs.Common.{◌+◌, ◌-◌, ◌≡◌, ◌<◌, length, ◌∙◌, sym, subst, refl}
use Rattle.std.specs.Prelude.{slice_index, ◌++◌}
use Rattle.markdown_blocks.specs.content.Content.{Placed}
use Rattle.markdown_blocks.proofs.content.SegmentLemmas.{at_offset, given_in_bytes, given_in_columns}
use Rattle.markdown_blocks.proofs.content.Content.source_offset.Goals as goal

pub returns-then-further-segment : goal.returns-then-further-segment
returns-then-further-segment c =
    let i = c.self.inside in
    let s = c.segment_at.result.0 in
    let e = c.segment_at.ensures in
    let low = subst (λ (v : Placed). c.args.offset < length v.text) (sym c.self.view_is) c.requires in
    let here = given_in_columns s c.args.offset c.saturating_sub-further.result c.saturating_sub.result
    c.saturating_sub-further.ensures c.if-further-segment.true c.saturating_sub.ensures in
    subst (λ (v : Placed). c.saturating_sub.result ≡ slice_index v.offsets c.args.offset) c.self.view_is
    (at_offset i.first i.later.items (length (i.lent.now ++ i.built.items)) c.args.offset c.saturating_sub.result low
    (here ∙ rw c.deref.ensures.value at (e.offsets c.args.offset e.begins e.ends)))

pub returns : goal.returns
returns c =
    let i = c.self.inside in
    let s = c.segment_at.result.0 in
    let e = c.segment_at.ensures in
    let source = s.source + (c.saturating_sub-further.result - s.columns) in
    let low = subst (λ (v : Placed). c.args.offset < length v.text) (sym c.self.view_is) c.requires in
    let here = given_in_bytes s c.args.offset c.saturating_sub-further.result source c.saturating_sub-further.ensures c.if-further-segment.false refl in
    subst (λ (v : Placed). source ≡ slice_index v.offsets c.args.offset) c.self.view_is
    (at_offset i.first i.later.items (length (i.lent.now ++ i.built.items)) c.args.offset source low
    (here ∙ rw c.deref.ensures.value at (e.offsets c.args.offset e.begins e.ends)))
