use Rattle.std.proofs.Common.{ℕ, List, ◌≡◌, ◌≤◌, ◌++◌, [], ◌∷◌, length, ap, sym, ◌∙◌, subst, append-nil}
use Rattle.std.specs.List.{AllByRecursion, flat_map}
use Rattle.markdown_blocks.specs.content.Content.{content_len, front, joined, text_of}
use Rattle.markdown_blocks.specs.content.Left.{parts_left}
use Rattle.markdown_blocks.specs.content.Parts.{Part}
use Rattle.markdown_blocks.specs.content.Seen.{IsIn, seen_part}
use Rattle.markdown_blocks.specs.content.Segments.{segments_from}
use Rattle.markdown_blocks.specs.declared.content.Segment.{Segment}
use Rattle.markdown_blocks.proofs.content.SegmentLemmas.{begun_held, begun_seen}
use Rattle.markdown_blocks.proofs.content.built.Goals as goal

text_all : (text all : List ℕ) (rest : List Part) → rest ≡ [] → text ++ flat_map text_of rest ≡ all → text ≡ all
text_all text all rest none is = sym (append-nil text) ∙ ap (λ ps. text ++ flat_map text_of ps) (sym none) ∙ is

segments_all : (segments all : List Segment) (n : ℕ) (rest : List Part) → rest ≡ [] → segments ++ segments_from n rest ≡ all → segments ≡ all
segments_all segments all n rest none is = sym (append-nil segments) ∙ ap (λ ps. segments ++ segments_from n ps) (sym none) ∙ is

pub invariant_of-result : goal.invariant_of-result
invariant_of-result c =
    let l = c.loop-part in
    let p = seen_part c.args.first in
    let later = parts_left c.args.later in
    let none = c.in_default.ensures.none in
    let text = text_all l.text.items _ (parts_left l.rest) none l.invariant.1 in
    let segs = segments_all l.segments.items _ _ (parts_left l.rest) none l.invariant.2 in
    let all = l.invariant.3 (subst (AllByRecursion (IsIn c.args.later.lines.now)) (sym none) tt) in
    let within = subst (λ t. c.content_len-end.result ≤ length t) c.deref.ensures.value c.content_len-end.ensures.within in
    begun_held c.args.later.lines.now p later l.text.items c.truncate.new.self.items l.segments.items c.content_len-end.result
    text segs c.truncate.ensures.items within (c.requires.inside, all) c.ranges.later.0

pub returns : goal.returns
returns c =
    let l = c.loop-part in
    let p = seen_part c.args.first in
    let later = parts_left c.args.later in
    let none = c.in_default.ensures.none in
    let text = text_all l.text.items _ (parts_left l.rest) none l.invariant.1 in
    let segs = segments_all l.segments.items _ _ (parts_left l.rest) none l.invariant.2 in
    let within = subst (λ t. c.content_len-end.result ≤ length t) c.deref.ensures.value c.content_len-end.ensures.within in
    begun_seen c.args.later.lines.now p later l.text.items c.truncate.new.self.items l.segments.items c.content_len-end.result
    text segs c.truncate.ensures.items within c.requires.broken
    ∙ ap (λ m. front m (joined (p ∷ later))) (c.content_len-end.ensures.length ∙ ap (content_len c.args.kind) (c.deref.ensures.value ∙ text))
