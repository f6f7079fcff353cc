-- How far a scan of a tag over lines has come, and what that says of its end.
--
-- A tag over lines is proved in two steps. The scanner's states agree with the grammar, over bytes
-- alone (`TagEnds`). And a loop over the source reads a kept text byte by byte: reading on from a
-- offset, with what was passed before it, is reading from the start, and each tag begins with what
-- was passed (`TagScan`). So the grammar never meets the skips.
use Rattle.std.proofs.Common.{ℕ, zero, suc, List, [], ◌∷◌, ◌++◌, ◌+◌, ◌-◌, ◌<◌, ◌≤◌, ◌≡◌, true, false, cond, length, take, drop, get_or}
use Rattle.std.proofs.Common.{Option, Some, None, IfSome, refl, sym, ap, ◌∙◌, subst, append_assoc, length-append, inl, inr, ◌⊎◌, arith}
use Rattle.std.proofs.lemmas.Bool.{cases_Bool}
use Rattle.std.proofs.lemmas.List.{drop_more, drop-drop, drop_all, length-drop, append-nil, map-append}
use Rattle.std.proofs.lemmas.List.Sums.{sum_by-append}
use Rattle.std.specs.Fn.{Shared}
use denote.Ref.{Bor}
use Rattle.markdown_scanners_tree.specs.Bytes.{is_at_line_end, is_line_ending}
use Rattle.markdown_scanners_tree.specs.Kept.{KeptByte, in_line, at_line_end, bytes_of, line_endings}
use Rattle.markdown_scanners_tree.specs.Handler.{Answers, IsSteady}
use Rattle.markdown_scanners_tree.specs.scanners.html_tag.KeptTag.{AnswersIfAny, AreLengths, offset_after, IsKeptTag}
use Rattle.markdown_scanners_tree.specs.scanners.tag_state.private.TagMachine.{next_state, state_after, is_tag_end, is_final, ends_source_line, LeadsTo, BeginsWith}
use Rattle.markdown_scanners_tree.specs.declared.scanners.tag_state.TagState.{TagState}
use Rattle.markdown_scanners_tree.specs.declared.scanners.tag_state.TagState.TheVariants.{Start}
use Rattle.markdown_scanners_tree.proofs.PrefixLemmas.{from_offset}
use Rattle.markdown_scanners_tree.proofs.KeptStep.{Reads}
use Rattle.markdown_scanners_tree.proofs.KeptReading.{Step, ends_alone, step_in_line, step_at_end, no_step, nothing_read, last_read}
use Rattle.markdown_scanners_tree.proofs.scanners.tag_state.TagWhole.{state_after_append}
use Rattle.markdown_scanners_tree.proofs.scanners.tag_state.TagEnds.{tag_exactly, end_is_final, final_goes_nowhere, line_ending_ends_none}

-- the scanner's words for a tag
abbrev pub EndsTag : List KeptByte → Type 0
EndsTag prefix = is_tag_end (state_after Start (bytes_of prefix)) (line_endings prefix) ≡ true

-- A prefix of a kept text is a tag exactly where it is read and the scanner comes to its end with it.
tag_read : (answers : List ℕ → ℕ → Type 0) (source : List ℕ) (prefix : List KeptByte) → IsKeptTag answers source prefix
    → Reads answers 0 source prefix
tag_read answers source prefix k =
    record { skips = k.kept.skips; rest = k.kept.rest; answered = k.kept.answered; begins = k.kept.begins }

pub tag_ends : (answers : List ℕ → ℕ → Type 0) (source : List ℕ) (prefix : List KeptByte) → IsKeptTag answers source prefix
    → EndsTag prefix
tag_ends answers source prefix k = (tag_exactly (bytes_of prefix) (line_endings prefix)).0 k.tag

tag_from : (answers : List ℕ → ℕ → Type 0) (source : List ℕ) (prefix : List KeptByte) → Reads answers 0 source prefix
    → EndsTag prefix → IsKeptTag answers source prefix
tag_from answers source prefix r e =
    record {
      kept = record { skips = r.skips; rest = r.rest; answered = r.answered; begins = r.begins };
      tag =
          (tag_exactly (bytes_of prefix) (line_endings prefix)).1 e;
    }

-- one more byte at the end
marks_more : (passed : List KeptByte) (k : KeptByte)
    → line_endings (passed ++ k ∷ []) ≡ line_endings passed + cond k.ends_line 1 0
marks_more passed k =
    let one : 0 + cond k.ends_line 1 0 ≡ cond k.ends_line 1 0 = omega arith in
    sum_by-append (λ (x : KeptByte). cond x.ends_line 1 0) passed (k ∷ []) ∙ ap (λ z. line_endings passed + z) one

after_more : (offset : ℕ) (passed : List KeptByte) (k : KeptByte) → offset_after offset (passed ++ k ∷ []) ≡ k.offset + 1
after_more offset [] k = refl
after_more offset (x ∷ xs) k = after_more (x.offset + 1) xs k

state_more : (passed : List KeptByte) (k : KeptByte)
    → state_after Start (bytes_of (passed ++ k ∷ [])) ≡ next_state (state_after Start (bytes_of passed)) k.byte
state_more passed k =
    ap (state_after Start) (map-append (λ x. x.byte) passed (k ∷ []))
    ∙ state_after_append Start (bytes_of passed) (k.byte ∷ [])

-- no tag goes on after a final state
pub final_ends_none : (passed : List KeptByte) (k : KeptByte) (ks : List KeptByte)
    → is_final (state_after Start (bytes_of passed)) ≡ true → EndsTag (passed ++ k ∷ ks) → ⊥
final_ends_none passed k ks final ends =
    let state = state_after Start (bytes_of passed) in
    let endings = line_endings (passed ++ k ∷ ks) in
    let run : state_after Start (bytes_of (passed ++ k ∷ ks)) ≡ state_after state (k.byte ∷ bytes_of ks) =
    ap (state_after Start) (map-append (λ x. x.byte) passed (k ∷ ks))
    ∙ state_after_append Start (bytes_of passed) (k.byte ∷ bytes_of ks) in
    let whole : is_tag_end (state_after state (k.byte ∷ bytes_of ks)) endings ≡ true =
    ap (λ z. is_tag_end z endings) (sym run) ∙ ends in
    let other : is_tag_end (state_after state (k.byte ∷ bytes_of ks)) endings ≡ false =
    final_goes_nowhere state k.byte (bytes_of ks) endings final in
    cc

-- One turn of a loop: the byte at the offset is kept, and the next one stands at the next offset.
pub record Turn (answers : List ℕ → ℕ → Type 0) (source : List ℕ) (offset endings next marks : ℕ) : Type 0 where
  pub kept : KeptByte
  pub byte : kept.byte ≡ get_or source offset 0
  pub at : kept.offset ≡ offset
  pub step : Step answers offset (drop offset source) kept next (drop next source)
  pub marked : marks ≡ endings + cond kept.ends_line 1 0
  pub inside : next ≤ length source
  pub alone : is_line_ending kept.byte ≡ false
      → (next ≡ offset + 1) × Reads answers offset (drop offset source) (kept ∷ [])

module _ (answers : List ℕ → ℕ → Type 0) (source : List ℕ) (offset endings : ℕ) (low : offset < length source) where
  begins : drop offset source ≡ get_or source offset 0 ∷ drop (offset + 1) source
  begins = drop_more source offset 0 low

  turn_in_line : ends_source_line (drop offset source) ≡ false
      → Turn answers source offset endings (offset + 1) endings
  turn_in_line h =
      let plain : ends_source_line (get_or source offset 0 ∷ drop (offset + 1) source) ≡ false =
      ap ends_source_line (sym begins) ∙ h in
      record {
        kept = in_line (get_or source offset 0) offset;
        byte = refl;
        at = refl;
        step = rw begins (step_in_line answers offset (get_or source offset 0) (drop (offset + 1) source) plain);
        marked = omega arith;
        inside = omega arith;
        alone = λ e. (refl, rw begins (last_read answers offset (get_or source offset 0) (drop (offset + 1) source) e));
      }

  turn_at_end : (skip : ℕ) → ends_source_line (drop offset source) ≡ true → answers (drop (offset + 1) source) skip
      → ((n : ℕ) → answers (drop (offset + 1) source) n → n ≡ skip) → skip ≤ length (drop (offset + 1) source)
      → Turn answers source offset endings (offset + 1 + skip) (endings + 1)
  turn_at_end skip h a only inside =
      let byte : ℕ = get_or source offset 0 in
      let ends : ends_source_line (byte ∷ drop (offset + 1) source) ≡ true = ap ends_source_line (sym begins) ∙ h in
      let next : offset + (1 + skip) ≡ offset + 1 + skip = omega arith in
      let rest : drop skip (drop (offset + 1) source) ≡ drop (offset + 1 + skip) source =
      drop-drop skip (offset + 1) source in
      let step : Step answers offset (byte ∷ drop (offset + 1) source) (at_line_end byte offset) (offset + (1 + skip))
      (drop skip (drop (offset + 1) source)) =
      step_at_end answers offset byte (drop (offset + 1) source) skip ends a only in
      record {
        kept = at_line_end byte offset;
        byte = refl;
        at = refl;
        step =
            subst (λ z. Step answers offset z (at_line_end byte offset) (offset + 1 + skip)
            (drop (offset + 1 + skip) source)) (sym begins) (subst
            (λ z. Step answers offset (byte ∷ drop (offset + 1) source) (at_line_end byte offset) (offset + 1 + skip) z)
            rest
            (subst (λ z. Step answers offset (byte ∷ drop (offset + 1) source) (at_line_end byte offset) z
            (drop skip (drop (offset + 1) source))) next step));
        marked = refl;
        inside =
            (let l : length (drop (offset + 1) source) ≡ length source - (offset + 1) = length-drop (offset + 1) source in
            omega arith);
        alone =
            λ e. absurd (let t : is_line_ending byte ≡ true = (ends_alone offset byte (drop (offset + 1) source) ends).0 in cc);
      }

  no_turn : ends_source_line (drop offset source) ≡ true → ((n : ℕ) → answers (drop (offset + 1) source) n → ⊥)
      → (c : KeptByte) (t : List KeptByte) → Reads answers offset (drop offset source) (c ∷ t) → ⊥
  no_turn h none c t r =
      let ends : ends_source_line (get_or source offset 0 ∷ drop (offset + 1) source) ≡ true =
      ap ends_source_line (sym begins) ∙ h in
      no_step answers offset (get_or source offset 0) (drop (offset + 1) source) ends none c t
      (subst (λ z. Reads answers offset z (c ∷ t)) begins r)

-- a turn of a scan under a handler, by what its calls answer
module _ {F : Type 0} (g : Shared F (Bor (List ℕ) × Unit {0}) ℕ) (handler : Option (Bor F)) (source : List ℕ)
    (offset : ℕ) (low : offset < length source) where
  pub turn_with_skip : (endings : ℕ) (f : Bor F) (skip : ℕ) → handler ≡ Some f → IfSome handler (λ h. IsSteady g h.now)
      → ends_source_line (take (length source - offset) (drop offset source)) ≡ true
      → Answers g f.now (take (length source - (offset + 1)) (drop (offset + 1) source)) skip
      → Turn (AnswersIfAny g handler) source offset endings (offset + 1 + skip) (endings + 1)
  turn_with_skip endings f skip is steady h a =
      let sure : IsSteady g f.now = subst (λ z. IfSome z (λ h. IsSteady g h.now)) is steady in
      let answer : Answers g f.now (drop (offset + 1) source) skip =
      subst (λ z. Answers g f.now z skip) (from_offset source (offset + 1)) a in
      rw is (turn_at_end (Answers g f.now) source offset endings low skip
      (ap ends_source_line (sym (from_offset source offset)) ∙ h) answer
      (λ n b. sure.one_answer (drop (offset + 1) source) n skip b answer)
      (sure.inside (drop (offset + 1) source) skip answer))

  pub skip_inside : (f : Bor F) (skip : ℕ) → handler ≡ Some f → IfSome handler (λ h. IsSteady g h.now)
      → Answers g f.now (take (length source - (offset + 1)) (drop (offset + 1) source)) skip
      → offset + 1 + skip ≤ length source
  skip_inside f skip is steady a =
      let sure : IsSteady g f.now = subst (λ z. IfSome z (λ h. IsSteady g h.now)) is steady in
      let inside : skip ≤ length (drop (offset + 1) source) =
      sure.inside (drop (offset + 1) source) skip (subst (λ z. Answers g f.now z skip) (from_offset source (offset + 1)) a) in
      let l : length (drop (offset + 1) source) ≡ length source - (offset + 1) = length-drop (offset + 1) source in
      omega arith

  pub turn_without : (endings : ℕ) → ends_source_line (take (length source - offset) (drop offset source)) ≡ false
      → Turn (AnswersIfAny g handler) source offset endings (offset + 1) endings
  turn_without endings h =
      turn_in_line (AnswersIfAny g handler) source offset endings low (ap ends_source_line (sym (from_offset source offset)) ∙ h)

-- The bytes passed are read, and each tag begins with them.
pub record Scanned (answers : List ℕ → ℕ → Type 0) (source : List ℕ) (offset kept endings : ℕ) (state : TagState) : Type 0 where
  pub passed : List KeptByte
  pub counted : kept ≡ length passed
  pub ended : endings ≡ line_endings passed
  pub reached : state ≡ state_after Start (bytes_of passed)
  pub whole : is_tag_end state endings ≡ true → Reads answers 0 source passed × (offset ≡ offset_after 0 passed)
  pub forth : (c : KeptByte) (t : List KeptByte) → Reads answers offset (drop offset source) (c ∷ t)
      → Reads answers 0 source (passed ++ c ∷ t)
  pub left : (prefix : List KeptByte) → Reads answers 0 source prefix → EndsTag prefix
      → (t : List KeptByte) × (prefix ≡ passed ++ t) × Reads answers offset (drop offset source) t

scan_starts : (answers : List ℕ → ℕ → Type 0) (source : List ℕ) → Scanned answers source 0 0 0 Start
scan_starts answers source =
    record {
      passed = [];
      counted = refl;
      ended = refl;
      reached = refl;
      whole = λ e. cc;
      forth = λ c t r. r;
      left = λ prefix r e. (prefix, refl, r);
    }

module _ (answers : List ℕ → ℕ → Type 0) (source : List ℕ) (offset kept endings : ℕ) (state : TagState)
    (s : Scanned answers source offset kept endings state) where
  -- what is passed is a tag exactly where the state says so
  ends_passed : is_tag_end state endings ≡ is_tag_end (state_after Start (bytes_of s.passed)) (line_endings s.passed)
  ends_passed =
      ap (λ z. is_tag_end z endings) s.reached ∙ ap (is_tag_end (state_after Start (bytes_of s.passed))) s.ended

  -- a tag goes on after what is passed, where that is none
  goes_on : is_tag_end state endings ≡ false → (prefix : List KeptByte) → Reads answers 0 source prefix → EndsTag prefix
      → (c : KeptByte) × (t : List KeptByte) × (prefix ≡ s.passed ++ c ∷ t)
      × Reads answers offset (drop offset source) (c ∷ t)
  goes_on none prefix r e = let l = s.left prefix r e in by l.0 l.1 l.2
    where
      by : (t : List KeptByte) → prefix ≡ s.passed ++ t → Reads answers offset (drop offset source) t
          → (c : KeptByte) × (t : List KeptByte) × (prefix ≡ s.passed ++ c ∷ t)
          × Reads answers offset (drop offset source) (c ∷ t)
      by [] is rest =
          let whole : is_tag_end state endings ≡ true =
          ends_passed
          ∙ ap (λ z. is_tag_end (state_after Start (bytes_of z)) (line_endings z)) (sym (append-nil s.passed) ∙ sym is)
          ∙ e in
          cc
      by (c ∷ t) is rest = (c, t, is, rest)

  -- and none goes on after a final state
  nowhere : is_final state ≡ true → (prefix : List KeptByte) → EndsTag prefix → (x : KeptByte) (u : List KeptByte)
      → prefix ≡ s.passed ++ x ∷ u → ⊥
  nowhere final prefix e x u is =
      final_ends_none s.passed x u (ap is_final (sym s.reached) ∙ final) (subst EndsTag is e)

  pub scan_finds : is_tag_end state endings ≡ true
      → (prefix : List KeptByte) × IsKeptTag answers source prefix × AreLengths kept offset prefix
  scan_finds e =
      let whole = s.whole e in
      (s.passed, tag_from answers source s.passed whole.0 (sym ends_passed ∙ e), (s.counted, whole.1))

  pub scan_only : is_tag_end state endings ≡ true
      → (prefix : List KeptByte) → IsKeptTag answers source prefix → AreLengths kept offset prefix
  scan_only e prefix k =
      let l = s.left prefix (tag_read answers source prefix k) (tag_ends answers source prefix k) in by l.0 l.1
    where
      by : (t : List KeptByte) → prefix ≡ s.passed ++ t → AreLengths kept offset prefix
      by [] is =
          let same : s.passed ≡ prefix = sym (append-nil s.passed)
          ∙ sym is in (s.counted ∙ ap length same, (s.whole e).1 ∙ ap (offset_after 0) same)
      by (x ∷ u) is = absurd (nowhere (end_is_final state endings e) prefix (tag_ends answers source prefix k) x u is)

  pub scan_ends : is_tag_end state endings ≡ false → (length source ≤ offset) ⊎ (is_final state ≡ true)
      → (prefix : List KeptByte) → IsKeptTag answers source prefix → ⊥
  scan_ends none end prefix k =
      let l = goes_on none prefix (tag_read answers source prefix k) (tag_ends answers source prefix k) in
      by end l.0 l.1 l.2 l.3
    where
      by : (length source ≤ offset) ⊎ (is_final state ≡ true) → (c : KeptByte) (t : List KeptByte)
          → prefix ≡ s.passed ++ c ∷ t → Reads answers offset (drop offset source) (c ∷ t) → ⊥
      by (inl high) c t is r =
          nothing_read answers offset c t (subst (λ z. Reads answers offset z (c ∷ t)) (drop_all offset source high) r)
      by (inr final) c t is r = nowhere final prefix (tag_ends answers source prefix k) c t is

  module _ (unfinished : is_final state ≡ false) where
    no_end : is_tag_end state endings ≡ false
    no_end =
        elim (cases_Bool (is_tag_end state endings)) [
          | inl e ↦ absurd (let final : is_final state ≡ true = end_is_final state endings e in cc)
          | inr e ↦ e
        ]

    scan_has_no_skip : offset < length source → ends_source_line (drop offset source) ≡ true
        → ((n : ℕ) → answers (drop (offset + 1) source) n → ⊥) → (prefix : List KeptByte)
        → IsKeptTag answers source prefix → ⊥
    scan_has_no_skip low h none prefix k =
        let l = goes_on no_end prefix (tag_read answers source prefix k) (tag_ends answers source prefix k) in
        no_turn answers source offset endings low h none l.0 l.1 l.3

    module _ (next marks : ℕ) (turn : Turn answers source offset endings next marks) where
      after : TagState
      after = next_state state (get_or source offset 0)

      more : List KeptByte
      more = s.passed ++ turn.kept ∷ []

      plain : is_tag_end after marks ≡ true → is_line_ending turn.kept.byte ≡ false
      unfolding after
      plain e =
          elim (cases_Bool (is_line_ending turn.kept.byte)) [
            | inr other ↦ other
            | inl ending ↦ absurd (
                let none : is_tag_end (next_state state (get_or source offset 0)) marks ≡ false =
                line_ending_ends_none state (get_or source offset 0) marks (ap is_line_ending (sym turn.byte) ∙ ending) in
                cc)
          ]

      whole_more : is_tag_end after marks ≡ true → Reads answers 0 source more × (next ≡ offset_after 0 more)
      unfolding more
      whole_more e =
          let alone = turn.alone (plain e) in
          (s.forth turn.kept [] alone.1, alone.0 ∙ ap (λ z. z + 1) (sym turn.at) ∙ sym (after_more 0 s.passed turn.kept))

      left_more : (prefix : List KeptByte) → Reads answers 0 source prefix → EndsTag prefix
          → (t : List KeptByte) × (prefix ≡ more ++ t) × Reads answers next (drop next source) t
      unfolding more
      left_more prefix r e =
          let l = goes_on no_end prefix r e in
          let back = turn.step.back l.0 l.1 l.3 in
          (l.1, l.2 ∙ ap (λ c. s.passed ++ c ∷ l.1) back.0 ∙ sym (append_assoc s.passed (turn.kept ∷ []) l.1), back.1)

      pub scan_goes_on : Scanned answers source next (kept + 1) marks (next_state state (get_or source offset 0))
      unfolding after more
      scan_goes_on = record {
        passed = more;
        counted = ap (λ z. z + 1) s.counted ∙ sym (length-append s.passed (turn.kept ∷ []));
        ended = turn.marked ∙ ap (λ z. z + cond turn.kept.ends_line 1 0) s.ended ∙ sym (marks_more s.passed turn.kept);
        reached =
            ap (next_state state) (sym turn.byte) ∙ ap (λ z. next_state z turn.kept.byte) s.reached
            ∙ sym (state_more s.passed turn.kept);
        whole = whole_more;
        forth =
            λ c t r. subst (λ z. Reads answers 0 source z) (sym (append_assoc s.passed (turn.kept ∷ []) (c ∷ t)))
            (s.forth turn.kept (c ∷ t) (turn.step.forth c t r));
        left = left_more;
      }

-- bytes with no line ending among them, one after the other
plain_here : (offset b : ℕ) (bs : List ℕ) → is_line_ending b ≡ false → ends_source_line (b ∷ bs) ≡ false
plain_here offset b bs plain =
    elim (cases_Bool (ends_source_line (b ∷ bs))) [
      | inl ends ↦ absurd (let ending : is_line_ending b ≡ true = (ends_alone offset b bs ends).0 in cc)
      | inr e ↦ e
    ]

module _ (answers : List ℕ → ℕ → Type 0) (source : List ℕ) (endings : ℕ) where
  scan_reads : (n offset kept : ℕ) (from to : TagState) → Scanned answers source offset kept endings from
      → offset + n ≤ length source → LeadsTo from (take n (drop offset source)) to
      → Scanned answers source (offset + n) (kept + n) endings to
  scan_reads zero offset kept from to s inside l =
      let p : offset ≡ offset + 0 = omega arith in
      let k : kept ≡ kept + 0 = omega arith in
      subst (λ z. Scanned answers source z (kept + 0) endings to) p (subst
      (λ z. Scanned answers source offset z endings to) k
      (subst (λ z. Scanned answers source offset kept endings z) l s))
  scan_reads (suc n) offset kept from to s inside l =
      let low : offset < length source = omega arith in
      let byte : ℕ = get_or source offset 0 in
      let parts : LeadsTo from (byte ∷ take n (drop (offset + 1) source)) to =
      subst (λ z. LeadsTo from (take (suc n) z) to) (drop_more source offset 0 low) l in
      let plain : ends_source_line (drop offset source) ≡ false =
      rw (drop_more source offset 0 low) (plain_here offset byte (drop (offset + 1) source) parts.1) in
      let one : Scanned answers source (offset + 1) (kept + 1) endings (next_state from byte) =
      scan_goes_on answers source offset kept endings from s parts.0 (offset + 1) endings
      (turn_in_line answers source offset endings low plain) in
      let rest : Scanned answers source (offset + 1 + n) (kept + 1 + n) endings to =
      scan_reads n (offset + 1) (kept + 1) (next_state from byte) to one (omega arith) parts.2 in
      let p : offset + 1 + n ≡ offset + suc n = omega arith in
      let k : kept + 1 + n ≡ kept + suc n = omega arith in
      subst (λ z. Scanned answers source z (kept + suc n) endings to) p
      (subst (λ z. Scanned answers source (offset + 1 + n) z endings to) k rest)

-- the first bytes
pub scan_begins : (answers : List ℕ → ℕ → Type 0) (source : List ℕ) (n : ℕ) (to : TagState) → n ≤ length source
    → BeginsWith (take n source) to → Scanned answers source n n 0 to
scan_begins answers source n to inside l =
    subst (λ z. Scanned answers source z z 0 to) (let e : 0 + n ≡ n = omega arith in e)
    (scan_reads answers source 0 n 0 0 Start to (scan_starts answers source) (omega arith) l)

-- the bytes of a line's rest
pub scan_reads_on : (answers : List ℕ → ℕ → Type 0) (source : List ℕ) (offset kept endings n : ℕ) (from to : TagState)
    → Scanned answers source offset kept endings from → offset ≤ length source
    → n ≤ length (take (length source - offset) (drop offset source))
    → LeadsTo from (take n (take (length source - offset) (drop offset source))) to
    → Scanned answers source (offset + n) (kept + n) endings to
scan_reads_on answers source offset kept endings n from to s low inside l =
    let rest : length (take (length source - offset) (drop offset source)) ≡ length source - offset =
    ap length (from_offset source offset) ∙ length-drop offset source in
    scan_reads answers source endings n offset kept from to s (omega arith)
    (subst (λ z. LeadsTo from (take n z) to) (from_offset source offset) l)

-- a line ends with the byte at the offset, by what stands after it
pub ends_at : (source : List ℕ) (offset : ℕ) → offset < length source
    → ends_source_line (take (length source - offset) (drop offset source))
    ≡ ends_source_line (get_or source offset 0 ∷ take (length source - (offset + 1)) (drop (offset + 1) source))
ends_at source offset low =
    ap ends_source_line (from_offset source offset ∙ drop_more source offset 0 low)
    ∙ ap (λ rest. ends_source_line (get_or source offset 0 ∷ rest)) (sym (from_offset source (offset + 1)))

-- where no line ends, a byte at least is read
reads_some : (bytes : List ℕ) (n : ℕ) (from to : TagState) → is_at_line_end bytes ≡ false → is_final from ≡ false
    → LeadsTo from (take n bytes) to → (is_final to ≡ true) ⊎ (is_at_line_end (drop n bytes) ≡ true) → 0 < n
reads_some bytes zero from to text unfinished same (inl final) =
    absurd (let other : is_final from ≡ true = ap is_final same ∙ final in cc)
reads_some bytes zero from to text unfinished same (inr ends) = absurd (let other : is_at_line_end bytes ≡ true = ends in cc)
reads_some bytes (suc n) from to text unfinished leads end = omega arith

pub text_rises : (source : List ℕ) (offset n : ℕ) (from to : TagState) → offset < length source
    → is_line_ending (get_or source offset 0) ≡ false → is_final from ≡ false
    → LeadsTo from (take n (take (length source - offset) (drop offset source))) to
    → (is_final to ≡ true) ⊎ (is_at_line_end (drop n (take (length source - offset) (drop offset source))) ≡ true) → 0 < n
text_rises source offset n from to low plain =
    reads_some (take (length source - offset) (drop offset source)) n from to
    (rw (from_offset source offset, drop_more source offset 0 low) plain)

-- without a handler no line end is kept
pub no_handler_stops : {F : Type 0} (g : Shared F (Bor (List ℕ) × Unit {0}) ℕ) (handler : Option (Bor F))
    (source : List ℕ) (offset kept endings : ℕ) (state : TagState)
    → Scanned (AnswersIfAny g handler) source offset kept endings state → is_final state ≡ false → offset < length source
    → handler ≡ None → ends_source_line (take (length source - offset) (drop offset source)) ≡ true
    → (prefix : List KeptByte) → IsKeptTag (AnswersIfAny g handler) source prefix → ⊥
no_handler_stops g handler source offset kept endings state s unfinished low none h =
    scan_has_no_skip (AnswersIfAny g handler) source offset kept endings state s unfinished low
    (ap ends_source_line (sym (from_offset source offset)) ∙ h)
    (λ n a. subst (λ z. AnswersIfAny g z (drop (offset + 1) source) n) none a)
