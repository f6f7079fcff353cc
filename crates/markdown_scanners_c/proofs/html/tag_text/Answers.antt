-- The closure leaves out what a search in the table tells, and nothing else.
use Rattle.std.proofs.Common.{◌≡◌, ◌∙◌, sym, subst, refl, ap, inl, inr, rules, of_calls, arith, length, drop}
use Rattle.std.proofs.lemmas.List.{take_rest, length-drop}
use Rattle.markdown_scanners_tree.specs.scanners.html_tag.KeptTag.{IsKeptTag, tag_buffer}
use Rattle.markdown_scanners_c.specs.Buffer.{IsWritten}
use Rattle.markdown_scanners_c.specs.Skips.{LeavesOut}
use Rattle.markdown_scanners_c.specs.Tags.{IsTagText}
use Rattle.markdown_scanners_c.proofs.Buffers.{front_changed, no_refused_offset}
use Rattle.markdown_scanners_c.proofs.TagLemmas.{Returned, tag_of_more, tag_too, tag_room, returned_is_left_out, left_out_is_returned}
use Rattle.markdown_scanners_c.proofs.html.tag_text.Goals as goal

pub returns-in-Ok-Some : goal.returns-in-Ok-Some
unfolding IsTagText
returns-in-Ok-Some c =
    let bytes = c.args.bytes.now in
    let skips = c.args.skips.now in
    let source = take_rest bytes c.args.start in
    let found = rw c.in-Ok-Some.field-0-is at c.in-Ok-Some.ensures.found in
    let within = rw c.in-Ok-Some.field-0-is at c.in-Ok-Some.ensures.within in
    let returned : IsKeptTag (Returned skips bytes) (drop c.args.start bytes) found.0 =
    subst (λ s. IsKeptTag (Returned skips bytes) s found.0) source
    (tag_of_more _ (Returned skips bytes) (λ rest skip x. subst (λ r. Returned skips bytes r skip) x.shows x.says.met) _ found.0 found.1) in
    let text : c.deref.result.now ≡ tag_buffer found.0 = c.deref.ensures.value ∙ found.2.0 in
    let w = c.write_text-status in
    let written = subst (λ t. IsWritten t c.args.buffer.now w.new.buffer w.result.status w.result.length) text w.ensures.written in
    record {
      tag = λ after stand. inr (inr (
        found.0,
        tag_too bytes _ (LeavesOut skips bytes) (returned_is_left_out skips bytes after stand) c.args.start found.0 returned,
        omega (arith, w.ensures.taken, found.2.1),
        written,
      ));
      there = no_refused_offset _ _ _ _ _ written;
      within = omega (arith, w.ensures.taken, within, ap length source, length-drop c.args.start bytes, c.requires);
      room = omega (arith, w.ensures.taken, written.0, found.2.1, tag_room _ _ found.0 returned);
      kept = front_changed _ _ _ _ _ written;
    }

pub returns-in-Ok-None : goal.returns-in-Ok-None
unfolding IsTagText
returns-in-Ok-None c =
    let bytes = c.args.bytes.now in
    let skips = c.args.skips.now in
    let none = rw (c.in-Ok-None.field-0-is, take_rest bytes c.args.start) at c.in-Ok-None.ensures.none in
    record {
      tag = λ after stand. inl (
        c.no_tag.ensures,
        refl,
        λ tag is. none tag (tag_of_more (Returned skips bytes) _
            (λ rest skip e. record { shown = record c.args.bytes { now = rest }; shows = refl; says = record { met = e } })
            (drop c.args.start bytes) tag
            (tag_too bytes (LeavesOut skips bytes) (Returned skips bytes) (left_out_is_returned skips bytes after stand) c.args.start tag is)),
      );
      there = λ past. omega (arith, past, c.no_tag.ensures.0);
      within = omega (arith, c.no_tag.ensures.1);
      room = omega (arith, c.no_tag.ensures.2);
      kept = (refl, λ other. refl);
    }

pub returns-in-Err : goal.returns-in-Err
unfolding IsTagText
returns-in-Err c =
    let bytes = c.args.bytes.now in
    let skips = c.args.skips.now in
    let found = c.in-Err.ensures.memory in
    let returned : IsKeptTag (Returned skips bytes) (drop c.args.start bytes) found.0 =
    subst (λ s. IsKeptTag (Returned skips bytes) s found.0) (take_rest bytes c.args.start)
    (tag_of_more _ (Returned skips bytes) (λ rest skip x. subst (λ r. Returned skips bytes r skip) x.shows x.says.met) _ found.0 found.1) in
    record {
      tag = λ after stand. inr (inl (
        c.no_tag-in-Err.ensures,
        refl,
        (found.0, tag_too bytes _ (LeavesOut skips bytes) (returned_is_left_out skips bytes after stand) c.args.start found.0 returned, found.2),
      ));
      there = λ past. omega (arith, past, c.no_tag-in-Err.ensures.0);
      within = omega (arith, c.no_tag-in-Err.ensures.1);
      room = omega (arith, c.no_tag-in-Err.ensures.2);
      kept = (refl, λ other. refl);
    }

pub scan_html_block_inner-requires : goal.scan_html_block_inner-requires
scan_html_block_inner-requires c = record {
  callable = search (rules, of_calls);
  steady = record {
    one_answer = λ rest m n a b.
        (let one = subst (λ r. Returned c.args.skips.now c.args.bytes.now r m) a.shows a.says.met in
        let other = subst (λ r. Returned c.args.skips.now c.args.bytes.now r n) b.shows b.says.met in
        one ∙ sym other);
    inside = λ rest n a.
        (let returned = subst (λ r. Returned c.args.skips.now c.args.bytes.now r n) a.shows a.says.met in
        omega (arith, returned));
  };
}
