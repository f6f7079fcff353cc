-- The second pass over a label.
use Rattle.std.proofs.Common.{append_assoc, length-append, length-take-le, ◌≤◌, ◌<◌, ℕ, zero, suc, List, ◌≡◌, ◌+◌, ◌-◌, ◌∷◌, ◌++◌}
use Rattle.std.proofs.Common.{[], refl, sym, ◌∙◌, ap, subst, cond, drop, take, length, arith, inl, inr, is_ok, true, false, get_or, nat_lt}
use Rattle.std.proofs.lemmas.Bool.{cases_Bool, false≢true, lt-ltb, le-ltb, ltb-true, ltb-false}
use Rattle.std.specs.Prelude.{slice_range}
use Rattle.std.proofs.lemmas.List.{drop-drop}
use Rattle.std.proofs.lemmas.List.Sums.{prefix_len-le-length, prefix_len_passes}
use Rattle.std.proofs.lemmas.Str.{IsCharBoundary-start}
use Rattle.std.proofs.lemmas.Grind.{common_steps}
use Rattle.std.specs.List.{prefix_len}
use Rattle.std.specs.Str.{IsCharBoundary}
use Rattle.std.specs.String.{string_bytes}
use Rattle.markdown_scanners_tree.specs.Bytes.{is_white_space_in_line}
use Rattle.markdown_scanners_tree.specs.Handler.{Skips}
use Rattle.markdown_scanners_tree.specs.Kept.{in_line, kept_line}
use Rattle.markdown_scanners_tree.specs.linklabel.private.NextPart.{IsNextPart}
use Rattle.markdown_scanners_tree.specs.linklabel.private.Pass.{due_after, starts_dropped, word_text, IsWordWritten}
use Rattle.markdown_scanners_tree.specs.linklabel.private.Run.{IsRun}
use Rattle.markdown_scanners_tree.specs.declared.linklabel.write.NextPart.TheVariants.{End, Open, Close, Ending, Space, Word}
use Rattle.markdown_scanners_tree.proofs.linklabel.FrontLemmas.{front_byte, front_cut, front_dropped, front_ending, front_fits, front_slice, white_cuts}
use Rattle.markdown_scanners_tree.proofs.linklabel.LabelRoom.{before_end}
use Rattle.markdown_scanners_tree.proofs.linklabel.WrittenFits.{pushed_fits}
use Rattle.markdown_scanners_tree.proofs.linklabel.SourceSteps.{IsAt, IsOnlySkip, at_start, none_at_end, none_at_opening, none_at_ending, after_word}
use Rattle.markdown_scanners_tree.proofs.linklabel.SourceSteps.{after_space, after_ending}
use Rattle.markdown_scanners_tree.proofs.linklabel.SourceSteps.{next_part_at, byte_fits, byte_rest, cut_after, cut_after_ending, ending_fits}
use Rattle.markdown_scanners_tree.proofs.linklabel.SourceSteps.{ending_white, white_small, byte_at, rest_is}
use Rattle.markdown_scanners_tree.proofs.linklabel.SeenBytes.{Written, Written-none, word_text-length}
use Rattle.markdown_scanners_tree.proofs.linklabel.WriteLemmas.{label_written, word_written, appended, ending_written, space_written, word_follows}
use Rattle.markdown_scanners_tree.proofs.linklabel.WrittenRuns.{past_run, past_spaces, run_after, slice_run}
use Rattle.markdown_scanners_tree.proofs.linklabel.write.write_label.Goals as goal

-- where white space begins the text may be cut, if it may be cut where the scan is
end_cut : (text : List ℕ) (end ix : ℕ) → end ≤ ix
    → (end < ix → IsCharBoundary text end × IsCharBoundary text ix) → IsCharBoundary text ix → IsCharBoundary text end
end_cut text end ix after gap here = elim (cases_Bool (nat_lt end ix)) [
  | inl less ↦ (gap (ltb-true end ix less)).0
  | inr not ↦ (let same : ix ≡ end = omega (arith, after, ltb-false end ix not) in subst (IsCharBoundary text) same here)
]

-- white space after a word is a run of it
later_run : (end n : ℕ) → run_after false n ≡ nat_lt end (end + n)
later_run end zero = sym (le-ltb end (end + zero) (omega arith))
later_run end (suc n) = sym (lt-ltb end (end + suc n) (omega arith))

pub loop-out-init : goal.loop-out-init
loop-out-init g c = record {
  within = omega arith;
  in_text = omega arith;
  after = omega arith;
  ends = omega arith;
  cut = IsCharBoundary-start c.args.text.now c.utf8.text;
  gap = λ less. absurd (omega (arith, less));
  seen = [];
  at = at_start _ _;
  pushed = [];
  written = Written-none _ _;
  same = refl;
  counts = omega arith;
  room = omega arith;
}

pub returns-in-End : goal.returns-in-End
returns-in-End g c = record {
  written = λ label l. (let pushed : label.text ≡ c.loop-out.invariant.pushed = elim c.in-End.is [
    | inl e ↦
        (let f : IsNextPart c.loop-out.escaped (drop c.loop-out.ix c.args.bytes.now) End =
        next_part_at c.args.bytes.now c.loop-out.ix _ _ _ c.next_part.ensures e in
        absurd (none_at_end _ _ _ _ _ _ c.loop-out.invariant.at f _ label l))
    | inr d ↦ elim d [
      | inl e ↦
          (let f : IsNextPart c.loop-out.escaped (drop c.loop-out.ix c.args.bytes.now) Open =
          next_part_at c.args.bytes.now c.loop-out.ix _ _ _ c.next_part.ensures e in
          absurd (none_at_opening _ _ _ _ _ _ c.loop-out.invariant.at f _ label l))
      | inr e ↦
          (let f : IsNextPart c.loop-out.escaped (drop c.loop-out.ix c.args.bytes.now) Close =
          next_part_at c.args.bytes.now c.loop-out.ix _ _ _ c.next_part.ensures e in
          label_written _ _ _ _ _ _ _ _ _ _ c.loop-out.invariant.at f c.loop-out.invariant.written label l)
    ]
  ] in
      appended (string_bytes c.args.out.now) (string_bytes c.loop-out.out)
      (take (c.loop-out.end - c.loop-out.mark) (drop c.loop-out.mark c.args.text.now))
      (string_bytes c.push_str.new.self) c.loop-out.invariant.pushed label.text c.push_str.result
      c.loop-out.invariant.same
      (c.push_str.ensures.bytes
      ∙ ap (λ z. cond (is_ok c.push_str.result) (string_bytes c.loop-out.out ++ z) (string_bytes c.loop-out.out))
      c.range.ensures.value) pushed);
  fits = λ label l enough.
      (let bound = pushed_fits _ _ _ _ _ _ _ _ _ _ c.loop-out.invariant.at c.loop-out.invariant.written label l in
      c.push_str.ensures.succeeds
      (omega (arith, enough, bound, c.loop-out.invariant.counts, c.loop-out.invariant.room, c.range.ensures.len, c.loop-out.invariant.after)));
}

pub returns-in_default : goal.returns-in_default
returns-in_default g c =
    let o : IsNextPart c.loop-out.escaped (drop c.loop-out.ix c.args.bytes.now) (Ending c.in-Ending.len) =
    next_part_at c.args.bytes.now c.loop-out.ix _ _ _ c.next_part.ensures c.in-Ending.is in
    let lacks : (m : ℕ) → Skips g.F.Fn c.args.handler.now (drop c.in-Ending.len (drop c.loop-out.ix c.args.bytes.now)) m
    → ⊥ = λ m k. c.in_default.ensures.found m
    (subst (λ r. Skips g.F.Fn c.args.handler.now r m) (drop-drop c.in-Ending.len c.loop-out.ix c.args.bytes.now)
    k) in
    record {
      written = λ label l. absurd (none_at_ending _ _ _ _ _ _ c.loop-out.invariant.at _ o lacks _ label l);
      fits = λ label l enough. absurd (none_at_ending _ _ _ _ _ _ c.loop-out.invariant.at _ o lacks _ label l);
    }

pub loop-out-preserved-in-Ending : goal.loop-out-preserved-in-Ending
loop-out-preserved-in-Ending g c =
    let text = c.args.text.now in
    let bytes = c.args.bytes.now in
    let ix = c.loop-out.ix in
    let inv = c.loop-out.invariant in
    let o : IsNextPart c.loop-out.escaped (drop c.loop-out.ix c.args.bytes.now) (Ending c.in-Ending.len) =
    next_part_at c.args.bytes.now c.loop-out.ix _ _ _ c.next_part.ensures c.in-Ending.is in
    let jx = c.loop-out.ix + (c.in-Ending.len + c.in-Some.skip) in
    let only : IsOnlySkip (Skips g.F.Fn c.args.handler.now) (drop c.in-Ending.len (drop c.loop-out.ix c.args.bytes.now))
    c.in-Some.skip =
    subst (λ r. IsOnlySkip (Skips g.F.Fn c.args.handler.now) r c.in-Some.skip)
    (sym (drop-drop c.in-Ending.len c.loop-out.ix c.args.bytes.now))
    (record { answer = c.in-Some.ensures.found; only = c.in-Some.ensures.only }) in
    let next = subst (IsAt _ _ _ _ jx) (drop-drop (c.in-Ending.len + c.in-Some.skip) c.loop-out.ix c.args.bytes.now)
    (after_ending _ _ _ _ _ _ c.loop-out.invariant.at _ o _ only) in
    let label = c.requires.closed in
    let inside : jx < length c.args.text.now = omega (
      arith,
      before_end _ _ _ _ _ _ next c.args.is_in_table label.label label.is_label,
      label.within,
    ) in
    let some = (ending_fits c.args.bytes.now c.loop-out.ix c.in-Ending.len o).1 in
    let line = cut_after_ending c.args.text.now c.loop-out.ix c.in-Ending.len c.utf8.text
    (front_ending c.args.text.now c.args.bytes.now c.requires.front c.loop-out.ix (omega (arith, inside, some)) c.in-Ending.len o) in
    let offset : c.loop-out.ix + c.in-Ending.len + c.in-Some.skip ≡ jx = omega arith in
    let here : IsCharBoundary text ix = front_cut text bytes c.requires.front ix o.byte o.others o.parts
    (omega (arith, inside, some)) (white_small o.byte (ending_white o.byte o.ends)) in
    let there : IsCharBoundary text jx = subst (IsCharBoundary text) offset
    (c.requires.cuts.at (ix + c.in-Ending.len) c.in-Some.skip line c.in-Some.ensures.found (omega (arith, inside))) in
    let in_run : true ≡ nat_lt c.loop-out.end jx = sym (lt-ltb c.loop-out.end jx (omega (arith, inv.ends, some))) in
    record {
      within = omega (arith, c.in-Some.ensures.within);
      in_text = omega (arith, inside);
      after = inv.after;
      ends = omega (arith, inv.ends);
      cut = inv.cut;
      gap = λ less. (end_cut text c.loop-out.end ix inv.ends inv.gap here, there);
      seen = inv.seen ++ kept_line ix (drop ix bytes);
      at = next;
      pushed = inv.pushed;
      written = subst (λ v. Written c.args.is_in_table (inv.seen ++ kept_line ix (drop ix bytes)) jx (drop jx bytes)
          (nat_lt 0 c.loop-out.end) v inv.pushed) in_run (ending_written _ _ _ jx _ _ _ _ _ _ o inv.written);
      same = inv.same;
      counts = inv.counts;
      room = inv.room;
    }

pub loop-out-preserved-in-Space : goal.loop-out-preserved-in-Space
loop-out-preserved-in-Space g c =
    let text = c.args.text.now in
    let bytes = c.args.bytes.now in
    let ix = c.loop-out.ix in
    let inv = c.loop-out.invariant in
    let o : IsNextPart c.loop-out.escaped (drop c.loop-out.ix c.args.bytes.now) (Space c.in-Space.field-0) =
    next_part_at c.args.bytes.now c.loop-out.ix _ _ _ c.next_part.ensures c.in-Space.is in
    let next = byte_rest c.args.bytes.now c.loop-out.ix c.in-Space.field-0 o.others o.parts in
    let fits = byte_fits c.args.bytes.now c.loop-out.ix c.in-Space.field-0 o.others o.parts in
    let at = after_space _ _ _ _ _ _ c.loop-out.invariant.at _ _ o next in
    let label = c.requires.closed in
    let inside : c.loop-out.ix + 1 < length c.args.text.now = omega (
      arith,
      before_end _ _ _ _ _ _ at c.args.is_in_table label.label label.is_label,
      label.within,
    ) in
    let parts = front_byte c.args.text.now c.args.bytes.now c.requires.front c.loop-out.ix c.in-Space.field-0 o.others o.parts
    (omega (arith, inside)) in
    let small = white_small c.in-Space.field-0 o.white in
    let here : IsCharBoundary text ix = front_cut text bytes c.requires.front ix c.in-Space.field-0 o.others o.parts
    (omega (arith, inside)) small in
    let in_run : true ≡ nat_lt c.loop-out.end (ix + 1) = sym (lt-ltb c.loop-out.end (ix + 1) (omega (arith, inv.ends))) in
    record {
      within = omega (arith, fits);
      in_text = omega (arith, inside);
      after = inv.after;
      ends = omega (arith, inv.ends);
      cut = inv.cut;
      gap = λ less. (
        end_cut text c.loop-out.end ix inv.ends inv.gap here,
        cut_after text ix c.in-Space.field-0 _ c.utf8.text parts small,
      );
      seen = inv.seen ++ in_line c.in-Space.field-0 ix ∷ [];
      at = at;
      pushed = inv.pushed;
      written = subst (λ v. Written c.args.is_in_table (inv.seen ++ in_line c.in-Space.field-0 ix ∷ []) (ix + 1)
          (drop (ix + 1) bytes) (nat_lt 0 c.loop-out.end) v inv.pushed) in_run
          (space_written _ _ _ _ _ _ _ _ _ o next inv.written);
      same = inv.same;
      counts = inv.counts;
      room = inv.room;
    }

pub loop-out-preserved : goal.loop-out-preserved
loop-out-preserved g c =
    let t = c.args.is_in_table in
    let text = c.args.text.now in
    let bytes = c.args.bytes.now in
    let ix = c.loop-out.ix in
    let b = c.in-Word.field-0 in
    let inv = c.loop-out.invariant in
    let mark = c.in_ok-mark-in-Word.mark in
    let len = c.word_run-run.result.len in
    let rest = drop (ix + 1) bytes in
    let end = ix + 1 + len in
    let n = c.scan_whitespace_no_nl.result in
    let o : IsNextPart c.loop-out.escaped (drop c.loop-out.ix c.args.bytes.now)
    (Word c.in-Word.field-0 c.in-Word.escapes) =
    next_part_at c.args.bytes.now c.loop-out.ix _ _ _ c.next_part.ensures c.in-Word.is in
    let next = byte_rest bytes ix b o.others o.parts in
    let word : IsWordWritten t text c.loop-out.mark c.loop-out.end ix c.loop-out.out c.write_word.new.out mark =
    c.in_ok-mark-in-Word.ensures.written in
    let is_due = due_after c.loop-out.end ix in
    let more = word_text is_due (starts_dropped t (drop ix bytes)) in
    let label = c.requires.closed in
    let begun = after_word _ _ _ _ _ _ inv.at _ _ _ o next in
    let first_in : ix + 1 < length text = omega (
      arith,
      before_end _ _ _ _ _ _ begun t label.label label.is_label,
      label.within,
    ) in
    let byte : get_or text ix 0 ≡ b =
    (byte_at text ix b _ (front_byte text bytes c.requires.front ix b o.others o.parts (omega (arith, first_in)))).1 in
    let drops = front_dropped text bytes c.requires.front ix first_in t in
    let adds : word_text is_due (starts_dropped t (drop ix text)) (get_or text ix 0) ≡ more b =
    λ i. word_text is_due (drops i) (byte i) in
    let sliced = rest_is bytes (ix + 1) in
    let run : IsRun t c.in-Word.escapes rest len c.word_run-run.result.escapes =
    subst (λ z. IsRun t c.in-Word.escapes z len c.word_run-run.result.escapes) sliced c.word_run-run.ensures.run in
    let inside : len ≤ length rest = omega (arith, c.word_run-run.ensures.within, ap length sliced) in
    let p = past_run _ _ t _ _ (ix + 1) _ _ begun
    (word_follows _ _ _ _ _ _ _ _ _ _ _ o next inv.written) _ _ run in
    let pushed = (inv.pushed ++ more b) ++ take len rest in
    let later : drop len rest ≡ drop end bytes = drop-drop len (ix + 1) bytes in
    let run_in : end < length text = omega (
      arith,
      before_end _ _ _ _ _ _ p.at t label.label label.is_label,
      label.within,
    ) in
    let spaces : n ≡ prefix_len is_white_space_in_line (drop end bytes) =
    c.scan_whitespace_no_nl.ensures.run ∙ ap (prefix_len is_white_space_in_line) (rest_is bytes end) in
    let short : n ≤ length (drop end bytes) =
    omega (arith, spaces, prefix_len-le-length is_white_space_in_line (drop end bytes)) in
    let white : (k : ℕ) → k < n → is_white_space_in_line (get_or (drop end bytes) k 0) ≡ true =
    λ k below. prefix_len_passes is_white_space_in_line (drop end bytes) k 0 (omega (arith, below, spaces)) in
    let q = past_spaces _ _ t c.word_run-run.result.escapes p.seen end (drop end bytes) pushed true false
    (subst (IsAt _ _ _ _ end) later p.at) (subst (λ z. Written t p.seen end z true false pushed) later p.written) n short white in
    let after : drop n (drop end bytes) ≡ drop (end + n) bytes = drop-drop n end bytes in
    let at = subst (IsAt (Skips g.F.Fn c.args.handler.now) bytes c.word_run-run.result.escapes q.seen (end + n)) after q.at in
    let spaces_in : end + n < length text = omega (
      arith,
      before_end _ _ _ _ _ _ at t label.label label.is_label,
      label.within,
    ) in
    let has_word : true ≡ nat_lt 0 end = sym (lt-ltb 0 end (omega arith)) in
    let same_run : take len rest ≡ take len (drop (ix + 1) text) =
    sym (front_slice text bytes c.requires.front (ix + 1) len (omega (arith, run_in))) in
    let first = word_written (string_bytes c.args.out.now) inv.pushed (string_bytes c.loop-out.out)
    (string_bytes c.write_word.new.out) (slice_range text c.loop-out.mark c.loop-out.end)
    (slice_range text mark (ix + 1)) (more b) inv.same
    (word.text_is ∙ ap (λ z. (string_bytes c.loop-out.out ++ slice_range text c.loop-out.mark c.loop-out.end) ++ z) adds) in
    let old = string_bytes c.args.out.now in
    let new = string_bytes c.write_word.new.out in
    record {
      within = omega (arith, spaces_in, front_fits text bytes c.requires.front);
      in_text = omega (arith, spaces_in);
      after = omega (arith, word.within);
      ends = omega arith;
      cut = word.start;
      gap = λ less. white_cuts text bytes c.requires.front c.utf8.text end n (omega (arith, less)) (omega (arith, spaces_in)) white;
      seen = q.seen;
      at = at;
      pushed = pushed;
      written = subst (λ z. z) (λ i. Written t q.seen (end + n) (after i) (has_word i) (later_run end n i) pushed) q.written;
      same = sym (append_assoc old (inv.pushed ++ more b) (take len rest))
          ∙ ap (λ z. z ++ take len rest) first
          ∙ append_assoc new (slice_range text mark (ix + 1)) (take len rest)
          ∙ ap (λ z. new ++ (slice_range text mark (ix + 1) ++ z)) same_run
          ∙ ap (λ z. new ++ z) (slice_run text mark (ix + 1) end len word.within refl);
      counts =
          omega (
            arith,
            inv.counts,
            length-append (inv.pushed ++ more b) (take len rest),
            length-append inv.pushed (more b),
            length-take-le len rest inside,
            word.within,
            word.len_is,
            ap length adds,
          );
      room = omega (arith, inv.room, c.in_ok-mark-in-Word.ensures.capacity);
    }

pub returns-in_err-mark-in-Word-clause-fits : goal.returns-in_err-mark-in-Word-clause-fits
returns-in_err-mark-in-Word-clause-fits g c = λ label l enough.
    let t = c.args.is_in_table in
    let bytes = c.args.bytes.now in
    let ix = c.loop-out.ix in
    let b = c.in-Word.field-0 in
    let inv = c.loop-out.invariant in
    let o : IsNextPart c.loop-out.escaped (drop c.loop-out.ix c.args.bytes.now)
    (Word c.in-Word.field-0 c.in-Word.escapes) =
    next_part_at c.args.bytes.now c.loop-out.ix _ _ _ c.next_part.ensures c.in-Word.is in
    let next = byte_rest bytes ix b o.others o.parts in
    let is_due = due_after c.loop-out.end ix in
    let more = word_text is_due (starts_dropped t (drop ix bytes)) b in
    let bound : length (inv.pushed ++ more) ≤ length label.text = pushed_fits _ _ _ _ _ _ _ _ _ _
    (after_word _ _ _ _ _ _ inv.at _ _ _ o next) (word_follows _ _ _ _ _ _ _ _ _ _ _ o next inv.written) label l in
    let size = word_text-length is_due (starts_dropped t (drop ix bytes)) b in
    absurd (false≢true (c.in_err-mark-in-Word.ensures.succeeds
    (omega (
      arith,
      enough,
      inv.room,
      inv.counts,
      inv.after,
      bound,
      length-append inv.pushed more,
      size,
    ))))

-- The text may be cut where the last word ends.
pub range-requires-clause-end_boundary : goal.range-requires-clause-end_boundary
range-requires-clause-end_boundary g c =
    let label = c.requires.closed in
    let inv = c.loop-out.invariant in
    let at = inv.at in
    let inside : c.loop-out.ix < length c.args.text.now = omega (
      arith,
      before_end _ _ _ _ _ _ at c.args.is_in_table label.label label.is_label,
      label.within,
    ) in
    end_cut c.args.text.now c.loop-out.end c.loop-out.ix inv.ends inv.gap (elim c.in-End.is [
      | inl e ↦
          (let f : IsNextPart c.loop-out.escaped (drop c.loop-out.ix c.args.bytes.now) End =
          next_part_at c.args.bytes.now c.loop-out.ix _ _ _ c.next_part.ensures e in
          absurd (none_at_end _ _ _ _ _ _ at f _ label.label label.is_label))
      | inr d ↦ elim d [
        | inl e ↦
            (let f : IsNextPart c.loop-out.escaped (drop c.loop-out.ix c.args.bytes.now) Open =
            next_part_at c.args.bytes.now c.loop-out.ix _ _ _ c.next_part.ensures e in
            absurd (none_at_opening _ _ _ _ _ _ at f _ label.label label.is_label))
        | inr e ↦
            (let f : IsNextPart c.loop-out.escaped (drop c.loop-out.ix c.args.bytes.now) Close =
            next_part_at c.args.bytes.now c.loop-out.ix _ _ _ c.next_part.ensures e in
            front_cut c.args.text.now c.args.bytes.now c.requires.front c.loop-out.ix 93 _ f.1.1 inside (omega arith))
      ]
    ])

pub write_word-requires-clause-within : goal.write_word-requires-clause-within
write_word-requires-clause-within g c =
    let label = c.requires.closed in
    omega (
      arith,
      before_end _ _ _ _ _ _ c.loop-out.invariant.at c.args.is_in_table label.label label.is_label,
      label.within,
    )

pub write_word-requires-clause-ends : goal.write_word-requires-clause-ends
write_word-requires-clause-ends g c = λ less. (c.loop-out.invariant.gap less).0

pub write_word-requires-clause-begins : goal.write_word-requires-clause-begins
write_word-requires-clause-begins g c = λ less. (c.loop-out.invariant.gap less).1

pub slice_bounds-word_run-count : goal.slice_bounds-word_run-count
slice_bounds-word_run-count g c = grind (arith, common_steps)

pub slice_bounds-word_run-start : goal.slice_bounds-word_run-start
slice_bounds-word_run-start g c = grind (arith, common_steps)

pub loop-out-smaller : goal.loop-out-smaller
loop-out-smaller g c = grind (arith, common_steps)
