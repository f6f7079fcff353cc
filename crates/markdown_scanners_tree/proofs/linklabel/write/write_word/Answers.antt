-- A byte of a word: what is left to be appended where it is kept, and where it is a dropped backslash.
use Rattle.std.proofs.Common.{◌≤◌, ◌<◌, ◌≡◌, ◌+◌, ◌-◌, ◌∷◌, ◌++◌, [], ℕ, Bool, true, false, List, String, refl, sym, ◌∙◌}
use Rattle.std.proofs.Common.{ap, cond, drop, take, length, get_or, arith, append_assoc, append-nil}
use Rattle.std.proofs.lemmas.List.{drop_more}
use Rattle.std.proofs.lemmas.Grind.{common_steps, not_there}
use Rattle.std.specs.Prelude.{slice_range}
use Rattle.std.specs.Str.{IsUtf8, IsCharBoundary}
use Rattle.std.specs.String.{string_bytes, string_len}
use Rattle.markdown_scanners_tree.specs.linklabel.private.Pass.{due_after, due_len, due_text, starts_dropped, word_text, IsWordWritten}
use Rattle.markdown_scanners_tree.proofs.linklabel.SourceSteps.{rest_is}
use Rattle.markdown_scanners_tree.proofs.linklabel.SeenBytes.{word_text-length}
use Rattle.markdown_scanners_tree.proofs.linklabel.WriteLemmas.{cut_after_dropped, no_slice, slice_more}
use Rattle.markdown_scanners_tree.proofs.linklabel.write.write_word.Goals as goal

module _ {Z : Type 0} (old mid : String Z) (t : Bool) (text : List ℕ) (mark end next offset : ℕ) (order : next ≤ offset)
    (within : offset < length text)
    (bytes : string_bytes mid ++ slice_range text next offset
    ≡ (string_bytes old ++ slice_range text mark end) ++ due_text (due_after end offset))
    (len : string_len mid + (offset - next) ≡ string_len old + (end - mark) + due_len (due_after end offset)) where
  abbrev due : Bool
  due = due_after end offset

  abbrev byte : ℕ
  byte = get_or text offset 0

  abbrev drops : Bool
  drops = starts_dropped t (drop offset text)

  abbrev before : List ℕ
  before = string_bytes old ++ slice_range text mark end

  parts : drop offset text ≡ byte ∷ drop (offset + 1) text
  parts = drop_more text offset 0 within

  size : length (word_text due drops byte) ≡ due_len due + cond drops 0 1
  size = word_text-length due drops byte

  dropped : (new : String Z) → IsUtf8 text → drops ≡ true → string_bytes new ≡ string_bytes mid ++ slice_range text next offset
      → string_len new ≡ string_len mid + (offset - next) → IsWordWritten t text mark end offset old new (offset + 1)
  dropped new utf8 d new_bytes new_len = record {
    within = omega arith;
    start = cut_after_dropped t text offset byte (drop (offset + 1) text) utf8 parts d;
    text_is = ap (λ z. string_bytes new ++ z) (no_slice text (offset + 1) (offset + 1) refl)
        ∙ append-nil (string_bytes new)
        ∙ new_bytes ∙ bytes ∙ ap (λ z. before ++ z) (sym (append-nil (due_text due)))
        ∙ (λ i. before ++ (due_text due ++ cond (sym d i) [] (byte ∷ [])));
    len_is = omega (arith, new_len, len, size, ap {B = ℕ} (λ v. cond v 0 1) d);
  }

  stays : IsCharBoundary text next → drops ≡ false → IsWordWritten t text mark end offset old mid next
  stays start d = record {
    within = omega (arith, order);
    start = start;
    text_is = ap (λ z. string_bytes mid ++ z) (slice_more text next offset byte (drop (offset + 1) text) order parts)
        ∙ sym (append_assoc (string_bytes mid) (slice_range text next offset) (byte ∷ [])) ∙ ap (λ z. z ++ byte ∷ []) bytes
        ∙ append_assoc before (due_text due) (byte ∷ [])
        ∙ (λ i. before ++ (due_text due ++ cond (sym d i) [] (byte ∷ [])));
    len_is = omega (arith, order, len, size, ap {B = ℕ} (λ v. cond v 0 1) d);
  }

-- what is read of the bytes from the offset on is so of the text
drops_as : (t : Bool) (bytes text : List ℕ) (offset : ℕ) (answer v : Bool) → bytes ≡ text
    → answer ≡ starts_dropped t (take (length bytes - offset) (drop offset bytes)) → answer ≡ v
    → starts_dropped t (drop offset text) ≡ v
drops_as t bytes text offset answer v same is e =
    ap (starts_dropped t) (sym (rest_is bytes offset ∙ ap (drop offset) same)) ∙ sym is ∙ e

pub returns-then-not-is_dropped-clause-written : goal.returns-then-not-is_dropped-clause-written
returns-then-not-is_dropped-clause-written c =
    let gap = c.in_ok-mark.ensures in
    stays _ _ c.args.is_in_table c.args.text.now c.args.mark c.args.end _ c.args.offset gap.order c.requires.within
    gap.bytes gap.len gap.start
    (drops_as _ c.as_bytes.result.now _ _ _ _ c.as_bytes.ensures.value c.is_dropped.ensures c.if-not-is_dropped.true)

pub returns-clause-written : goal.returns-clause-written
returns-clause-written c =
    let gap = c.in_ok-mark.ensures in
    dropped c.args.out.now c.write_gap.new.out c.args.is_in_table c.args.text.now c.args.mark c.args.end c.in_ok-mark.mark
    c.args.offset gap.order c.requires.within gap.bytes gap.len c.push_str.new.self c.utf8.text
    (drops_as _ c.as_bytes.result.now _ _ _ _ c.as_bytes.ensures.value c.is_dropped.ensures c.if-not-is_dropped.false)
    (c.in_ok-push_str.ensures.bytes ∙ ap (λ z. string_bytes c.write_gap.new.out ++ z) c.range.ensures.value)
    (omega (arith, c.in_ok-push_str.ensures.len, c.range.ensures.len))

pub range-requires-clause-end_boundary : goal.range-requires-clause-end_boundary
range-requires-clause-end_boundary c = grind (arith, common_steps, not_there)
