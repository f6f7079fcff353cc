-- Each call is one plain step.
use Rattle.std.specs.Prelude.{ℕ, suc, not, Option, Some, None, IfSome, IfNone, nat_eq, Bool, true, false, ◌≡◌, refl, ◌==◌, List, [], ◌∷◌, ◌++◌, ◌+◌, ◌-◌, ◌%◌}
use Rattle.std.specs.Prelude.{◌<◌, take, drop, ◌≤◌, length}
use Rattle.std.proofs.Common.{subst, sym, ◌∙◌, ap, arith, zero-add, take-add}
use Rattle.std.specs.List.{list_all}
use Rattle.std.specs.Option.{option_eq}
use Rattle.std.proofs.lemmas.List.{take-append-drop, length-take-le, drop-drop}
use Rattle.std.proofs.Math.Seq.{drop-append_seam}
use Rattle.std.proofs.lemmas.Bool.Decides.{nat_tests}
use Rattle.markdown_scanners_tree.specs.Bytes.{begins_with, is_line_ending, is_at_line_end}
use Rattle.markdown_scanners_tree.specs.Columns.{column_after, column_past, head_end, bytes_below, written_byte, written_out}
use Rattle.markdown_scanners_tree.specs.line.State.{LineState, unscanned, rest_of, leading_spaces, columns_further, space_within, after_space, bytes_further}
use Rattle.markdown_scanners_tree.specs.line.PlainStep.{plain_step, quote_step, definition_step, definition_spaces, PlainStep, IsPlainStep}
use Rattle.markdown_scanners_tree.specs.declared.line.run.LineAnswer.{LineAnswer}
use Rattle.markdown_scanners_tree.specs.declared.line.run.LineAnswer.TheVariants.{Flag, Count, Definition as DefinitionAnswer}
use Rattle.markdown_scanners_tree.specs.declared.line.run.LineCall.{LineCall}
use Rattle.markdown_scanners_tree.specs.declared.line.run.LineCall.TheVariants.{Upto, Eol, Quote, Definition as DefinitionCall}
use Rattle.markdown_scanners_tree.proofs.line.ColumnLemmas.{bool_cases, none_below, written-cons, below-split, past-fits, Reach, reach_byte, reach_none}
use Rattle.markdown_scanners_tree.proofs.PrefixLemmas.{both_true}
use Rattle.markdown_scanners_tree.proofs.line.HeadLemmas.{definition_spaces-within}
use Rattle.markdown_scanners_tree.proofs.line.WrittenLemmas.{line_end-written, begins-written, is_one_column}
use Rattle.markdown_scanners_tree.proofs.line.SpaceLemmas.{state_of, further-column, written_out-phase}

-- a state is made of its parts
pub state_is : (s : LineState) → s.phase < 4 → state_of s.bytes s.offset s.pending s.phase ≡ s
state_is s small =
    let phase : s.phase % 4 ≡ s.phase = omega arith in
    rw phase refl

-- what is left where nothing is pending
pub rest-none : (s : LineState) → s.pending ≡ 0 → rest_of s ≡ written_out s.phase (unscanned s)
rest-none s none = rw none refl

-- nothing taken
none_further : (s : LineState) → s.phase < 4 → columns_further 0 s ≡ s
none_further s small =
    let count : bytes_below s.phase (unscanned s) (s.phase + 0 - s.pending) ≡ 0 =
    none_below (unscanned s) s.phase (s.phase + 0 - s.pending) (omega arith) in
    let offset : s.offset + 0 ≡ s.offset = omega arith in
    let pending : s.pending + s.phase - (s.phase + 0) ≡ s.pending = omega arith in
    let phase : s.phase % 4 ≡ s.phase = omega arith in
    rw (count, offset, pending, phase) refl

pub eol_step : (s : LineState) (r : Bool) → s.phase < 4 → s.pending ≡ 0 → r ≡ is_at_line_end (unscanned s)
    → IsPlainStep Eol (Flag r) s s
eol_step s r small none e = record {
  answered = ap Flag (e ∙ sym (line_end-written (unscanned s) s.phase) ∙ ap is_at_line_end (sym (rest-none s none)));
  rest = refl;
  moved = sym (none_further s small);
}

pub upto_step : (n r : ℕ) (old new : LineState) → r ≡ space_within n old → new ≡ after_space n old →
    rest_of new ≡ drop r (rest_of old) → IsPlainStep (Upto n) (Count r) old new
upto_step n r old new answer state rest = record {
  answered = ap Count answer;
  rest = rw answer at rest;
  moved = state;
}

-- w bytes of one column each, and t columns after them
plain_then : (bytes front : List ℕ) (offset c w t : ℕ)
    → Reach c (drop offset bytes) front w (c + w) 0 (drop (offset + w) bytes) →
    columns_further (w + t) (state_of bytes offset 0 c) ≡ columns_further t (state_of bytes (offset + w) 0 (c + w))
plain_then bytes front offset c w t r =
    let m' = bytes_below (c + w) (drop (offset + w) bytes) (c + w + t - 0) in
    let sum : c + (w + t) - 0 ≡ c + w + t - 0 = omega arith in
    let count : bytes_below c (drop offset bytes) (c + (w + t) - 0) ≡ w + m' =
    rw sum (r.below (c + w + t - 0) (omega arith)) in
    let past : column_past c (take (w + m') (drop offset bytes))
    ≡ column_past (c + w) (take m' (drop (offset + w) bytes)) = r.past m' in
    let offset' : offset + (w + m') ≡ offset + w + m' = omega arith in
    let sum' : c + (w + t) ≡ c + w + t = omega arith in
    further-column bytes offset 0 c (w + t)
    ∙ rw (count, past, offset', sum') (sym (further-column bytes (offset + w) 0 (c + w) t))

-- plain bytes are passed one column each
reach_plain : (front back : List ℕ) {c₀ : ℕ} {bs₀ out : List ℕ} {passed c : ℕ} → list_all is_one_column front ≡ true
    → Reach c₀ bs₀ out passed c 0 (front ++ back)
    → (out' : List ℕ) × Reach c₀ bs₀ out' (passed + length front) (c + length front) 0 back
reach_plain [] back {c₀} {bs₀} {out} {passed} {c} all r =
    let p : passed + 0 ≡ passed = omega arith in
    let e : c + 0 ≡ c = omega arith in
    (out, rw (p, e) r)
reach_plain (b ∷ front) back {c₀} {bs₀} {out} {passed} {c} all r =
    let both = both_true (is_one_column b) (list_all is_one_column front) all in
    let plain : (b == 9) ≡ false = (let h = both.0 in grind (arith, nat_tests)) in
    let goes : is_line_ending b ≡ false = (let h = both.0 in grind (arith, nat_tests)) in
    let next : column_after c b ≡ c + 1 = rw plain refl in
    let one : Reach c₀ bs₀ (out ++ written_byte c b) (passed + 1) (column_after c b) 0 (front ++ back) =
    reach_byte 0 r goes (omega arith) in
    let more = reach_plain front back both.1
    (subst (λ x. Reach c₀ bs₀ (out ++ written_byte c b) (passed + 1) x 0 (front ++ back)) next one) in
    let p : passed + 1 + length front ≡ passed + length (b ∷ front) = omega arith in
    let e : c + 1 + length front ≡ c + length (b ∷ front) = omega arith in
    (more.0, rw (← p, ← e) more.1)

-- w plain bytes at the offset of a state
module _ (s : LineState) (w : ℕ) (small : s.phase < 4) (none : s.pending ≡ 0) (inside : w ≤ length (unscanned s))
    (plain : list_all is_one_column (take w (unscanned s)) ≡ true) where
  reach_bytes : (out : List ℕ) × Reach s.phase (unscanned s) out w (s.phase + w) 0 (drop (s.offset + w) s.bytes)
  reach_bytes =
      let u = unscanned s in
      let c = s.phase in
      let parts : u ≡ take w u ++ drop w u = sym (take-append-drop w u) in
      let r = reach_plain (take w u) (drop w u) plain (subst (λ x. Reach c u [] 0 c 0 x) parts (reach_none c 0 u)) in
      let count : length (take w u) ≡ w = length-take-le w u inside in
      let back : drop w u ≡ drop (s.offset + w) s.bytes = drop-drop w s.offset s.bytes in
      let counted = subst (λ n. Reach c u r.0 (0 + n) (c + n) 0 (drop w u)) count r.1 in
      let passed = subst (λ n. Reach c u r.0 n (c + w) 0 (drop w u)) (zero-add w) counted in
      (r.0, subst (λ x. Reach c u r.0 w (c + w) 0 x) back passed)

  -- what is left after them
  pub rest-bytes : rest_of (bytes_further w s) ≡ drop w (rest_of s)
  rest-bytes =
      let out = reach_bytes.0 in
      let r = reach_bytes.1 in
      let back = written_out (s.phase + w) (drop (s.offset + w) s.bytes) in
      let wide : length out ≡ w = omega (arith, r.wide) in
      let left : drop w (out ++ back) ≡ back =
      ap (λ n. drop n (out ++ back)) (sym wide) ∙ drop-append_seam out back in
      rest-none (bytes_further w s) none ∙ written_out-phase (drop (s.offset + w) s.bytes) (s.phase + w)
      ∙ sym (ap (drop w) (rest-none s none ∙ r.written) ∙ left)

  -- t columns after them
  pub bytes_then : (t : ℕ) → columns_further (w + t) s ≡ columns_further t (bytes_further w s)
  bytes_then t =
      let here : state_of s.bytes s.offset 0 s.phase ≡ s =
      ap (λ p. state_of s.bytes s.offset p s.phase) (sym none) ∙ state_is s small in
      let there : state_of s.bytes (s.offset + w) 0 (s.phase + w) ≡ bytes_further w s = rw none refl in
      ap (columns_further (w + t)) (sym here) ∙ plain_then s.bytes reach_bytes.0 s.offset s.phase w t reach_bytes.1
      ∙ ap (columns_further t) there

column_past-append : (front back : List ℕ) (c : ℕ)
    → column_past c (front ++ back) ≡ column_past (column_past c front) back
column_past-append [] back c = refl
column_past-append (b ∷ front) back c = column_past-append front back (column_after c b)

further-add_column : (bytes : List ℕ) (offset p c a b : ℕ) → c + a ≤ p + head_end c (drop offset bytes)
    → columns_further (a + b) (state_of bytes offset p c)
    ≡ columns_further b (columns_further a (state_of bytes offset p c))
further-add_column bytes offset p c a b fits =
    let back = drop offset bytes in
    let near = c + a - p in
    let far = c + (a + b) - p in
    let m = bytes_below c back near in
    let c₁ = column_past c (take m back) in
    let p₁ = p + c₁ - (c + a) in
    let back₁ = drop (offset + m) bytes in
    let m₁ = bytes_below c₁ back₁ (c₁ + b - p₁) in
    let c₂ = column_past c₁ (take m₁ back₁) in
    let reached : near ≤ c₁ = past-fits back c near m (omega arith) refl in
    let dropped : drop m back ≡ back₁ = drop-drop m offset bytes in
    let same : far ≡ c₁ + b - p₁ = omega arith in
    let split = below-split back c near far m (omega arith) refl in
    let count : bytes_below c back far ≡ m + m₁ = split ∙ rw (dropped, same) refl in
    let past : column_past c (take (m + m₁) back) ≡ c₂ =
    ap (column_past c) (take-add m m₁ back) ∙ column_past-append (take m back) (take m₁ (drop m back)) c
    ∙ ap (λ r. column_past c₁ (take m₁ r)) dropped in
    let offset' : offset + (m + m₁) ≡ offset + m + m₁ = omega arith in
    let pending : p + c₂ - (c + (a + b)) ≡ p₁ + c₂ - (c₁ + b) = omega arith in
    further-column bytes offset p c (a + b) ∙ rw (count, past, offset', pending) refl
    ∙ sym (ap (columns_further b) (further-column bytes offset p c a) ∙ further-column bytes (offset + m) p₁ c₁ b)

-- columns further twice
pub further-add : (s : LineState) (a b : ℕ) → s.phase < 4 → s.phase + a ≤ s.pending + head_end s.phase (unscanned s)
    → columns_further (a + b) s ≡ columns_further b (columns_further a s)
further-add s a b small fits =
    let here = state_is s small in
    ap (columns_further (a + b)) (sym here) ∙ further-add_column s.bytes s.offset s.pending s.phase a b fits
    ∙ ap (λ x. columns_further b (columns_further a x)) here

-- what is left before a byte that is no tab, with nothing pending
byte_left : (s : LineState) (b : ℕ) → s.phase < 4 → s.pending ≡ 0 → (b == 9) ≡ false → is_line_ending b ≡ false
    → unscanned s ≡ b ∷ drop (s.offset + 1) s.bytes
    → rest_of s ≡ b ∷ rest_of (bytes_further 1 s)
byte_left s b small none plain goes split =
    let back = drop (s.offset + 1) s.bytes in
    let first : written_out s.phase (b ∷ back) ≡ b ∷ written_out (s.phase + 1) back =
    written-cons s.phase b back goes ∙ rw plain refl in
    rest-none s none ∙ ap (written_out s.phase) split ∙ first
    ∙ ap (λ w. b ∷ w) (sym (written_out-phase back (s.phase + 1)) ∙ sym (rest-none (bytes_further 1 s) none))

-- a block quote marker with nothing pending is one plain step
pub quote_taken : (s new : LineState) → s.phase < 4 → s.pending ≡ 0 → unscanned s ≡ 62 ∷ drop (s.offset + 1) s.bytes
    → new ≡ after_space 1 (bytes_further 1 s)
    → rest_of new ≡ drop (space_within 1 (bytes_further 1 s)) (rest_of (bytes_further 1 s))
    → IsPlainStep Quote (Flag true) s new
quote_taken s new small none split state rest =
    let mid = bytes_further 1 s in
    let t = space_within 1 mid in
    let inside : 1 ≤ length (unscanned s) = rw split (omega arith) in
    let plain : list_all is_one_column (take 1 (unscanned s)) ≡ true = rw split refl in
    let before : rest_of s ≡ 62 ∷ rest_of mid = byte_left s 62 small none refl refl split in
    let e : 1 + t ≡ suc t = omega arith in
    record {
      answered = rw before refl;
      rest = rw (before, e) rest;
      moved = rw before (state ∙ sym (bytes_then s 1 small none inside plain t));
    }

-- a step that takes nothing
pub nothing_taken : (call : LineCall) (answer : LineAnswer) (s : LineState) → s.phase < 4
    → plain_step call (rest_of s) ≡ record { answer = answer; taken = 0 }
    → IsPlainStep call answer s s
nothing_taken call answer s small step =
    let taken : 0 ≡ (plain_step call (rest_of s)).taken = ap (λ (x : PlainStep). x.taken) (sym step) in
    record {
      answered = ap (λ (x : PlainStep). x.answer) (sym step);
      rest = ap (λ t. drop t (rest_of s)) taken;
      moved = sym (none_further s small) ∙ ap (λ t. columns_further t s) taken;
    }

no_quote : (r : List ℕ) → begins_with (λ b. b == 62) r ≡ false
    → quote_step r ≡ record { answer = Flag false; taken = 0 }
no_quote [] h = refl
no_quote (b ∷ r) h = rw h refl

pub quote_refused : (s : LineState) → s.phase < 4 → s.pending ≡ 0 → begins_with (λ b. b == 62) (unscanned s) ≡ false
    → IsPlainStep Quote (Flag false) s s
quote_refused s small none h =
    let step : quote_step (rest_of s) ≡ record { answer = Flag false; taken = 0 } =
    no_quote (rest_of s) (ap (begins_with (λ b. b == 62)) (rest-none s none)
    ∙ begins-written 62 refl refl (unscanned s) s.phase ∙ h) in
    nothing_taken Quote (Flag false) s small step

-- what the byte at the offset says of the bytes from there on
pub begins_with-other : (r : Option ℕ) (xs back : List ℕ) (x : ℕ) → IfSome r (λ b. xs ≡ b ∷ back) → IfNone r (xs ≡ [])
    → not (option_eq nat_eq r (Some x)) ≡ true → begins_with (λ b. b == x) xs ≡ false
begins_with-other None xs back x byte end other = rw end refl
begins_with-other (Some b) xs back x byte end other =
    rw byte (bool_cases (b == x) (λ same. let e = rw same at other in cc) (λ no. no))

pub begins_with-first : (r : Option ℕ) (xs back : List ℕ) (x : ℕ) → IfSome r (λ b. xs ≡ b ∷ back)
    → not (option_eq nat_eq r (Some x)) ≡ false → xs ≡ x ∷ back
begins_with-first None xs back x byte same = cc
begins_with-first (Some b) xs back x byte same =
    bool_cases (b == x)
    (λ yes. let e : b ≡ x = grind (arith, nat_tests) in rw byte (ap (λ c. c ∷ back) e))
    (λ no. let e = rw no at same in cc)

-- no space taken
pub no_space_taken : (s : LineState) → s.phase < 4 → s ≡ after_space 0 s
no_space_taken s small =
    let none : space_within 0 s ≡ 0 = omega arith in
    sym (none_further s small) ∙ ap (λ t. columns_further t s) (sym none)

-- a definition's marker with nothing pending is one plain step
pub definition_taken : (indent t : ℕ) (s new : LineState) → s.phase < 4 → s.pending ≡ 0
    → unscanned s ≡ 58 ∷ drop (s.offset + 1) s.bytes
    → t ≡ definition_spaces (leading_spaces (rest_of (bytes_further 1 s)))
    → new ≡ after_space t (bytes_further 1 s) → rest_of new ≡ drop t (rest_of (bytes_further 1 s))
    → IsPlainStep (DefinitionCall indent) (DefinitionAnswer (Some (indent + 1 + t))) s new
definition_taken indent t s new small none split counted state rest =
    let mid = bytes_further 1 s in
    let inside : 1 ≤ length (unscanned s) = rw split (omega arith) in
    let plain : list_all is_one_column (take 1 (unscanned s)) ≡ true = rw split refl in
    let some = definition_spaces-within (leading_spaces (rest_of mid)) in
    let within : space_within t mid ≡ t = omega (arith, counted, some) in
    let before : rest_of s ≡ 58 ∷ rest_of mid = byte_left s 58 small none refl refl split in
    let step : definition_step indent (rest_of s)
    ≡ record { answer = DefinitionAnswer (Some (indent + 1 + t)); taken = 1 + t } =
    ap (definition_step indent) before
    ∙ ap (λ n. record { answer = DefinitionAnswer (Some (indent + 1 + n)); taken = 1 + n }) (sym counted) in
    let taken : 1 + t ≡ (definition_step indent (rest_of s)).taken = ap (λ (x : PlainStep). x.taken) (sym step) in
    let e : 1 + t ≡ suc t = omega arith in
    record {
      answered = ap (λ (x : PlainStep). x.answer) (sym step);
      rest = rest ∙ sym (ap (drop (1 + t)) before ∙ rw e refl) ∙ ap (λ n. drop n (rest_of s)) taken;
      moved = state ∙ ap (λ n. columns_further n mid) within ∙ sym (bytes_then s 1 small none inside plain t)
          ∙ ap (λ n. columns_further n s) taken;
    }

no_definition : (indent : ℕ) (r : List ℕ) → begins_with (λ b. b == 58) r ≡ false
    → definition_step indent r ≡ record { answer = DefinitionAnswer None; taken = 0 }
no_definition indent [] h = refl
no_definition indent (b ∷ r) h = rw h refl

pub definition_refused : (indent : ℕ) (s : LineState) → s.phase < 4 → s.pending ≡ 0
    → begins_with (λ b. b == 58) (unscanned s) ≡ false
    → IsPlainStep (DefinitionCall indent) (DefinitionAnswer None) s s
definition_refused indent s small none h =
    let step : definition_step indent (rest_of s) ≡ record { answer = DefinitionAnswer None; taken = 0 } =
    no_definition indent (rest_of s) (ap (begins_with (λ b. b == 58)) (rest-none s none)
    ∙ begins-written 58 refl refl (unscanned s) s.phase ∙ h) in
    nothing_taken (DefinitionCall indent) (DefinitionAnswer None) s small step
