-- What stands around a run tells what the run is.
use Rattle.std.proofs.Common.{ℕ, List, ◌≡◌, ◌+◌, ◌-◌, ◌<◌, ◌≤◌, ◌⊎◌, max, length, take, drop, inl, inr, refl, sym, ap, subst, ◌∙◌, arith}
use Rattle.std.proofs.lemmas.List.{take_rest, length-take, length-drop, drop-drop}
use Rattle.std.specs.Str.{IsUtf8, IsCharBoundary}
use Rattle.markdown_scanners_tree.specs.Ascii.{asterisk, underscore}
use Rattle.markdown_inlines.specs.DelimiterRuns.{IsDelimiterRun}
use Rattle.markdown_scanners_c.specs.DelimiterRuns.{IsReturnedRun}
use Rattle.markdown_scanners_c.proofs.DelimiterRuns.{IsSameAround, count_of, run_len, around, moved, made_run, same_around, window_text, same_counts}
use Rattle.markdown_scanners_c.proofs.delimiter_runs.mds_scan_delimiter_run.Goals as goal

module _ (bytes rest end : List ℕ) (offset one other count front back : ℕ) (is_rest : rest ≡ drop offset bytes)
    (is_end : end ≡ drop (offset + count) bytes) (inside : offset ≤ length bytes) (ones : one ≡ count_of asterisk rest)
    (others : other ≡ count_of underscore rest) (larger : count ≡ max one other) where
  counted : count ≡ run_len (drop offset bytes)
  counted = omega (arith, larger, ones ∙ ap (count_of asterisk) is_rest, others ∙ ap (count_of underscore) is_rest)

  module _ (few : one ≤ length rest) (few_others : other ≤ length rest) (some : 0 < count) (front_within : front ≤ length (take offset bytes)) where
    within : front ≤ offset
    within = omega (arith, front_within, length-take offset bytes)

    fits : offset + count ≤ length bytes
    fits = omega (arith, larger, few, few_others, ap length is_rest, length-drop offset bytes, inside)

    module _ (begun : IsUtf8 (take offset bytes) → IsCharBoundary (take offset bytes) (length (take offset bytes) - front))
        (ended : IsUtf8 end → IsCharBoundary end back) (utf8 : IsUtf8 bytes) where
      at_begin : IsUtf8 (take offset bytes) → IsCharBoundary (take offset bytes) (offset - front)
      at_begin text = subst (IsCharBoundary (take offset bytes)) (omega (arith, length-take offset bytes, inside)) (begun text)

      at_end : IsUtf8 (drop (offset + count) bytes) → IsCharBoundary (drop (offset + count) bytes) back
      at_end = subst (λ t. IsUtf8 t → IsCharBoundary t back) is_end ended

      text_around : IsUtf8 (around bytes offset count front back)
      text_around = window_text bytes offset count front back within utf8 counted some fits at_begin at_end

      same : (0 < length (take offset bytes) → 0 < front) → (0 < length end → 0 < back)
          → IsSameAround (around bytes offset count front back) bytes front offset count
      same before after =
          same_around bytes offset count front back within utf8 counted some fits at_begin at_end
          (λ far. before (omega (arith, far, length-take offset bytes, inside)))
          (λ more. after (omega (arith, more, ap length is_end)))

      -- a run of what stands around is one of the text
      moved_out : (0 < length (take offset bytes) → 0 < front) → (0 < length end → 0 < back) → (text : List ℕ)
          → text ≡ around bytes offset count front back → (run : _) → IsDelimiterRun text front run → IsDelimiterRun bytes offset run
      moved_out before after text is run found =
          moved (around bytes offset count front back) bytes front offset count (same before after) run
          (subst (λ t. IsDelimiterRun t front run) is found)

-- of either byte as many are counted in what stands around
same_of : (bytes : List ℕ) (offset count front back : ℕ) → front ≤ offset → count ≡ run_len (drop offset bytes) → (byte : ℕ)
    → (byte ≡ asterisk) ⊎ (byte ≡ underscore)
    → count_of byte (drop front (around bytes offset count front back)) ≡ count_of byte (drop offset bytes)
same_of bytes offset count front back within all byte (inl is) =
    same_counts bytes offset count front back within byte (omega (arith, all, ap (λ b. count_of b (drop offset bytes)) is))
same_of bytes offset count front back within all byte (inr is) =
    same_counts bytes offset count front back within byte (omega (arith, all, ap (λ b. count_of b (drop offset bytes)) is))

pub returns-in_default-clause-run : goal.returns-in_default-clause-run
unfolding IsReturnedRun
returns-in_default-clause-run c =
    let bytes = c.args.bytes.now in
    let offset = c.args.offset in
    let front = c.last_len-front in
    let back = c.first_len-back in
    let whole = take_rest bytes offset in
    let end = take_rest _ c.max-count.result ∙ ap (drop c.max-count.result) whole ∙ drop-drop c.max-count.result offset bytes in
    let inside = c.if-offset-bytes.false in
    let one = c.scan_ch_repeat in
    let other = c.scan_ch_repeat-2 in
    let text = text_around bytes _ _ offset one.result other.result c.max-count.result front.result back.result whole end inside
    one.ensures.run other.ensures.run c.max-count.ensures one.ensures.within other.ensures.within (omega (arith, c.if-count-eq0.false))
    front.ensures.within front.ensures.boundary back.ensures.boundary in
    inr (inside, inr (inl (c.no_run-in_default.ensures, λ utf8. c.in_default.ensures.cases.0 (text utf8))))

pub returns-in-Some-clause-run : goal.returns-in-Some-clause-run
unfolding IsReturnedRun
returns-in-Some-clause-run c =
    let bytes = c.args.bytes.now in
    let offset = c.args.offset in
    let front = c.last_len-front in
    let back = c.first_len-back in
    let count = c.max-count.result in
    let whole = take_rest bytes offset in
    let end = take_rest _ count ∙ ap (drop count) whole ∙ drop-drop count offset bytes in
    let inside = c.if-offset-bytes.false in
    let one = c.scan_ch_repeat in
    let other = c.scan_ch_repeat-2 in
    let run = c.in-Some.run' in
    let is = c.in-Some.ensures.found in
    let same_text = c.in-Ok.ensures.cases.0 in
    let all = counted bytes _ _ offset one.result other.result count front.result back.result whole end inside
    one.ensures.run other.ensures.run c.max-count.ensures in
    let some : 0 < count = omega (arith, c.if-count-eq0.false) in
    let front_within : front.result ≤ offset = omega (arith, front.ensures.within, length-take offset bytes) in
    let bytes_counted : run.count ≡ count_of run.byte (drop offset bytes) =
    is.longest ∙ ap (λ t. count_of run.byte (drop front.result t)) same_text
    ∙ same_of bytes offset count front.result back.result front_within all run.byte is.delimiter in
    let out = moved_out bytes _ _ offset one.result other.result count front.result back.result whole end inside
    one.ensures.run other.ensures.run c.max-count.ensures one.ensures.within other.ensures.within some
    front.ensures.within front.ensures.boundary back.ensures.boundary in
    inr (inside, inr (inr (refl, is.some, bytes_counted, λ utf8. out utf8 front.ensures.some back.ensures.some _ same_text run is)))

pub returns-in-None-clause-run : goal.returns-in-None-clause-run
returns-in-None-clause-run c =
    let bytes = c.args.bytes.now in
    let offset = c.args.offset in
    let front = c.last_len-front in
    let back = c.first_len-back in
    let count = c.max-count.result in
    let whole = take_rest bytes offset in
    let end = take_rest _ count ∙ ap (drop count) whole ∙ drop-drop count offset bytes in
    let inside = c.if-offset-bytes.false in
    let one = c.scan_ch_repeat in
    let other = c.scan_ch_repeat-2 in
    let all = counted bytes _ _ offset one.result other.result count front.result back.result whole end inside
    one.ensures.run other.ensures.run c.max-count.ensures in
    let front_within : front.result ≤ offset = omega (arith, front.ensures.within, length-take offset bytes) in
    let text = around bytes offset count front.result back.result in
    let it = made_run text front.result
    (omega (
      arith,
      all,
      c.if-count-eq0.false,
      same_counts bytes offset count front.result back.result front_within asterisk (omega (arith, all)),
      same_counts bytes offset count front.result back.result front_within underscore (omega (arith, all)),
    )) in
    absurd (c.in-None.ensures.found it.0 (subst (λ t. IsDelimiterRun t front.result it.0) (sym c.in-Ok.ensures.cases.0) it.1))
