use Rattle.std.proofs.Common.{ℕ, List, ◌≡◌, ◌≤◌, refl, take, drop, length, ◌-◌, ap, sym, ◌∙◌, subst}
use Rattle.markdown_scanners_tree.specs.Bytes.{line_head}
use Rattle.markdown_scanners_tree.specs.line.Outcome.{after_all_space}
use Rattle.markdown_scanners_tree.specs.line.State.{LineState, after_space, unscanned}
use Rattle.markdown_blocks.specs.content.Parts.{without_closing}
use Rattle.markdown_blocks.specs.info.Info.{without_end}
use Rattle.markdown_blocks.proofs.taken.TakenLemmas.{slice_after}
use Rattle.markdown_blocks.proofs.content.parts.HeadingLemmas.{heading_in, heading_is}
use Rattle.markdown_blocks.proofs.content.parts.heading_part.Goals as goal

-- the text after an offset that is passed
rest_is : (s t u : LineState) (line text : List ℕ) (offset : ℕ) → s.bytes ≡ line → t ≡ after_space 4 s → u ≡ after_all_space t
    → t.bytes ≡ s.bytes → u.bytes ≡ t.bytes
    → offset ≡ u.offset → text ≡ take (length line - offset) (drop offset line) → text ≡ unscanned (after_all_space (after_space 4 s))
rest_is s t u line text offset same one two keeps keeps' at is =
    let bytes : line ≡ u.bytes = sym (keeps' ∙ keeps ∙ same) in
    is ∙ slice_after line offset ∙ ap (λ n. drop n line) at ∙ ap (drop u.offset) bytes
    ∙ ap unscanned (two ∙ ap after_all_space one)

ends_are : (after head front bytes : List ℕ) → head ≡ line_head after → front ≡ without_end head → bytes ≡ without_closing front
    → bytes ≡ without_closing (without_end (line_head after))
ends_are after head front bytes a b c = c ∙ ap without_closing (b ∙ ap without_end a)

pub returns-clause-part : goal.returns-clause-part
returns-clause-part c =
    let line = c.args.line.now in
    let offset = c.bytes_scanned.result in
    let text = take (length line - offset) (drop offset line) in
    let is = rest_is c.args.start c.scan_space_upto.new.self c.scan_all_space.new.self line text offset c.requires c.scan_space_upto.ensures.state
    c.scan_all_space.ensures.state c.scan_space_upto.ensures.bytes c.scan_all_space.ensures.bytes c.bytes_scanned.ensures.offset refl in
    let ends = ends_are c.without_front-after.result.now c.line_head.result.now c.without_end.result.now c.without_closing.result.now c.line_head.ensures.head
    c.without_end.ensures c.without_closing.ensures in
    heading_is c.args.start line text c.split_at.result.1.now c.without_front-after.result.now c.without_closing.result.now offset c.requires is
    (c.split_at.ensures.back ∙ ap (λ n. drop n text) c.scan_ch_repeat.ensures.run) c.without_front-after.ensures ends

pub returns-clause-inside : goal.returns-clause-inside
returns-clause-inside c =
    let line = c.args.line.now in
    let offset = c.bytes_scanned.result in
    let text = take (length line - offset) (drop offset line) in
    let is = rest_is c.args.start c.scan_space_upto.new.self c.scan_all_space.new.self line text offset c.requires c.scan_space_upto.ensures.state
    c.scan_all_space.ensures.state c.scan_space_upto.ensures.bytes c.scan_all_space.ensures.bytes c.bytes_scanned.ensures.offset refl in
    let ends = ends_are c.without_front-after.result.now c.line_head.result.now c.without_end.result.now c.without_closing.result.now c.line_head.ensures.head
    c.without_end.ensures c.without_closing.ensures in
    let keeps = c.scan_all_space.ensures.bytes ∙ c.scan_space_upto.ensures.bytes ∙ c.requires in
    heading_in c.args.start line text c.split_at.result.1.now c.without_front-after.result.now c.without_closing.result.now offset c.requires is
    (c.split_at.ensures.back ∙ ap (λ n. drop n text) c.scan_ch_repeat.ensures.run) c.without_front-after.ensures ends
    (slice_after line offset) (subst (λ b. offset ≤ length b) keeps c.bytes_scanned.ensures.within)
