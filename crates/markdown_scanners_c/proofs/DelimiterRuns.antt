-- A run in a text is the same as in what stands around it, from the character before it up to the one after it.
-- (CommonMark 0.31.2, section 6.2)
use Rattle.std.proofs.Common.{ℕ, ◌+◌, ◌-◌, ◌≤◌, ◌<◌, ◌≡◌, ◌≢◌, ◌==◌, ◌⊎◌, max, Option, Some, None, List, [], ◌∷◌, ◌++◌, length, get_or, take, drop}
use Rattle.std.proofs.Common.{encode_utf8_all, IsUtf8, inl, inr, refl, sym, ap, subst, ◌∙◌, arith}
use Rattle.std.specs.List.{prefix_len, last_or, slice_get}
use Rattle.std.specs.Str.{chars, IsCharBoundary}
use Rattle.std.proofs.lemmas.Bool.{cases_lt, eqb-true}
use Rattle.std.proofs.lemmas.List.{length-take, length-drop, take-append-drop, take-take, drop-take, drop-drop, get_or-drop, nil_from_length}
use Rattle.std.proofs.lemmas.List.Sums.{prefix_len_passes}
use Rattle.std.proofs.lemmas.Str.{chars-append, encodes-chars, IsUtf8-take, IsUtf8-drop}
use Rattle.std.proofs.lemmas.Str.{IsUtf8-between, IsCharBoundary-from_take, IsCharBoundary-from_rest, IsCharBoundary-before_ascii, IsCharBoundary-after_ascii}
use Rattle.markdown_scanners_tree.specs.Ascii.{asterisk, underscore}
use Rattle.markdown_scanners_tree.proofs.PrefixLemmas.{prefix_len-first}
use Rattle.markdown_inlines.specs.DelimiterRuns.{IsDelimiterRun, can_open, can_close, char_before, char_after}
use Rattle.markdown_inlines.specs.declared.delimiter_runs.DelimiterRun.{DelimiterRun as Run}

-- how many of this byte stand at the front
abbrev pub count_of : ℕ → List ℕ → ℕ
count_of byte bytes = prefix_len (λ b. b == byte) bytes

-- how many of one of the two bytes
abbrev pub run_len : List ℕ → ℕ
run_len bytes = max (count_of asterisk bytes) (count_of underscore bytes)

first_of : (byte : ℕ) (bytes : List ℕ) → 0 < count_of byte bytes → get_or bytes 0 0 ≡ byte
first_of byte bytes some = eqb-true (get_or bytes 0 0) byte (prefix_len_passes (λ b. b == byte) bytes 0 0 some)

-- two bytes don't both stand there
apart : (one other : ℕ) (bytes : List ℕ) → one ≢ other → 0 < count_of one bytes → count_of other bytes ≡ 0
apart one other bytes unlike some = elim (cases_lt 0 (count_of other bytes)) [
  | inl both ↦ absurd (unlike (sym (first_of one bytes some) ∙ first_of other bytes both))
  | inr none ↦ omega (arith, none)
]

-- a run's bytes are those that are counted
pub run_counted : (bytes : List ℕ) (byte : ℕ) → (byte ≡ asterisk) ⊎ (byte ≡ underscore) → 0 < count_of byte bytes
    → run_len bytes ≡ count_of byte bytes
run_counted bytes byte (inl is) some =
    let one : 0 < count_of asterisk bytes = subst (λ b. 0 < count_of b bytes) is some in
    omega (arith, ap (λ b. count_of b bytes) is, apart asterisk underscore bytes (λ e. omega (arith, e)) one)
run_counted bytes byte (inr is) some =
    let one : 0 < count_of underscore bytes = subst (λ b. 0 < count_of b bytes) is some in
    omega (arith, ap (λ b. count_of b bytes) is, apart underscore asterisk bytes (λ e. omega (arith, e)) one)

-- there is a run where such bytes stand
pub made_run : (text : List ℕ) (offset : ℕ) → 0 < run_len (drop offset text) → (run : Run) × IsDelimiterRun text offset run
made_run text offset some = elim (cases_lt 0 (count_of asterisk (drop offset text))) [
  | inl one ↦ made asterisk (inl refl) one
  | inr none ↦ made underscore (inr refl) (omega (arith, some, none))
] where
  made : (byte : ℕ) → (byte ≡ asterisk) ⊎ (byte ≡ underscore) → 0 < count_of byte (drop offset text)
      → (run : Run) × IsDelimiterRun text offset run
  made byte delimiter one =
      let count = count_of byte (drop offset text) in
      let before = char_before text offset in
      let after = char_after text (offset + count) in (
        record { byte = byte; count = count; can_open = can_open byte before after; can_close = can_close byte before after },
        record { delimiter = delimiter; some = one; longest = refl; opens = refl; closes = refl },
      )

-- Two texts have the same around these offsets.
pub record IsSameAround (one other : List ℕ) (p q count : ℕ) : Type 0 where
  pub asterisks : count_of asterisk (drop p one) ≡ count_of asterisk (drop q other)
  pub underscores : count_of underscore (drop p one) ≡ count_of underscore (drop q other)
  pub before : char_before one p ≡ char_before other q
  pub after : char_after one (p + count) ≡ char_after other (q + count)
  pub counted : count ≡ run_len (drop p one)

module _ (one other : List ℕ) (p q count : ℕ) where
  pub turned : IsSameAround one other p q count → IsSameAround other one q p count
  turned is = record {
    asterisks = sym is.asterisks;
    underscores = sym is.underscores;
    before = sym is.before;
    after = sym is.after;
    counted = omega (arith, is.counted, is.asterisks, is.underscores);
  }

  same_count : IsSameAround one other p q count → (byte : ℕ) → (byte ≡ asterisk) ⊎ (byte ≡ underscore)
      → count_of byte (drop p one) ≡ count_of byte (drop q other)
  same_count same byte (inl is) = subst (λ b. count_of b (drop p one) ≡ count_of b (drop q other)) (sym is) same.asterisks
  same_count same byte (inr is) = subst (λ b. count_of b (drop p one) ≡ count_of b (drop q other)) (sym is) same.underscores

  -- so a run of the one is a run of the other
  pub moved : IsSameAround one other p q count → (run : Run) → IsDelimiterRun one p run → IsDelimiterRun other q run
  moved same run is =
      let all : run.count ≡ count =
      is.longest ∙ sym (run_counted (drop p one) run.byte is.delimiter (omega (arith, is.longest, is.some))) ∙ sym same.counted in
      let after : char_after one (p + run.count) ≡ char_after other (q + run.count) =
      subst (λ n. char_after one (p + n) ≡ char_after other (q + n)) (sym all) same.after in
      record {
        delimiter = is.delimiter;
        some = is.some;
        longest = is.longest ∙ same_count same run.byte is.delimiter;
        opens = is.opens ∙ ap (λ b. can_open run.byte b (char_after one (p + run.count))) same.before
            ∙ ap (can_open run.byte (char_before other q)) after;
        closes = is.closes ∙ ap (λ b. can_close run.byte b (char_after one (p + run.count))) same.before
            ∙ ap (can_close run.byte (char_before other q)) after;
      }

last_again : (xs : List ℕ) (o p : Option ℕ) → 0 < length xs → last_or o xs ≡ last_or p xs
last_again [] o p some = absurd (omega (arith, some))
last_again (x ∷ xs) o p some = refl

last_of_both : (xs ys : List ℕ) (o : Option ℕ) → 0 < length ys → last_or o (xs ++ ys) ≡ last_or None ys
last_of_both [] ys o some = last_again ys o None some
last_of_both (x ∷ xs) ys o some = last_of_both xs ys (Some x) some

first_of_both : (xs ys : List ℕ) → 0 < length xs → slice_get (xs ++ ys) 0 ≡ slice_get xs 0
first_of_both [] ys some = absurd (omega (arith, some))
first_of_both (x ∷ xs) ys some = refl

some_spelled : (cs bs : List ℕ) → encode_utf8_all cs ≡ bs → 0 < length bs → 0 < length cs
some_spelled [] bs is some = absurd (omega (arith, ap length is, some))
some_spelled (c ∷ cs) bs is some = omega arith

some_chars : (bs : List ℕ) → IsUtf8 bs → 0 < length bs → 0 < length (chars bs)
some_chars bs utf8 some = some_spelled (chars bs) bs (encodes-chars bs utf8) some

-- the last character of a text is that of its end, and the first that of its front
last_char : (xs ys : List ℕ) → IsUtf8 xs → IsUtf8 ys → 0 < length ys → last_or None (chars (xs ++ ys)) ≡ last_or None (chars ys)
last_char xs ys front end some = ap (last_or None) (chars-append xs ys front) ∙ last_of_both (chars xs) (chars ys) None (some_chars ys end some)

first_char : (xs ys : List ℕ) → IsUtf8 xs → 0 < length xs → slice_get (chars (xs ++ ys)) 0 ≡ slice_get (chars xs) 0
first_char xs ys front some = ap (λ cs. slice_get cs 0) (chars-append xs ys front) ∙ first_of_both (chars xs) (chars ys) (some_chars xs front some)

-- What stands around a run: `front` bytes before it, the run, and `back` bytes after it.
abbrev pub around : List ℕ → ℕ → ℕ → ℕ → ℕ → List ℕ
around bytes offset count front back = take (offset + count + back - (offset - front)) (drop (offset - front) bytes)

module _ (bytes : List ℕ) (offset count front back : ℕ) (within : front ≤ offset) where
  abbrev window : List ℕ
  window = around bytes offset count front back

  from_offset : drop front (drop (offset - front) bytes) ≡ drop offset bytes
  from_offset = drop-drop front (offset - front) bytes ∙ ap (λ n. drop n bytes) (omega (arith, within))

  whole : window ≡ take (front + (count + back)) (drop (offset - front) bytes)
  whole = ap (λ n. take n (drop (offset - front) bytes)) (omega (arith, within))

  pub drop_front : drop front window ≡ take (count + back) (drop offset bytes)
  drop_front = ap (drop front) whole ∙ drop-take front (count + back) (drop (offset - front) bytes) ∙ ap (take (count + back)) from_offset

  take_front : take front window ≡ take front (drop (offset - front) bytes)
  take_front =
      ap (take front) whole ∙ take-take front (front + (count + back)) (drop (offset - front) bytes) (omega arith)

  drop_run : drop (front + count) window ≡ take back (drop (offset + count) bytes)
  drop_run =
      ap (drop (front + count)) (ap (λ n. take n (drop (offset - front) bytes)) (omega (arith, within)))
      ∙ drop-take (front + count) back (drop (offset - front) bytes)
      ∙ ap (take back) (drop-drop (front + count) (offset - front) bytes ∙ ap (λ n. drop n bytes) (omega (arith, within)))

  -- the same bytes are counted
  pub same_counts : (byte : ℕ) → count_of byte (drop offset bytes) ≤ count → count_of byte (drop front window) ≡ count_of byte (drop offset bytes)
  same_counts byte few =
      ap (count_of byte) drop_front
      ∙ omega (arith, prefix_len-first (λ b. b == byte) (count + back) (drop offset bytes), few)

  module _ (utf8 : IsUtf8 bytes) (counted : count ≡ run_len (drop offset bytes)) (some : 0 < count) (fits : offset + count ≤ length bytes)
      (begun : IsUtf8 (take offset bytes) → IsCharBoundary (take offset bytes) (offset - front))
      (ended : IsUtf8 (drop (offset + count) bytes) → IsCharBoundary (drop (offset + count) bytes) back) where
    ascii_at : (k : ℕ) → k < count → get_or bytes (offset + k) 0 < 128
    ascii_at k below =
        let it = made_run bytes offset (omega (arith, counted, some)) in
        let all : it.0.count ≡ count =
        it.1.longest ∙ sym (run_counted (drop offset bytes) it.0.byte it.1.delimiter (omega (arith, it.1.longest, it.1.some))) ∙ sym counted in
        let byte : get_or bytes (offset + k) 0 ≡ it.0.byte =
        sym (get_or-drop offset bytes k 0)
        ∙ eqb-true (get_or (drop offset bytes) k 0) it.0.byte
        (prefix_len_passes (λ b. b == it.0.byte) (drop offset bytes) k 0 (omega (arith, it.1.longest, all, below))) in
        elim it.1.delimiter [ inl is ↦ omega (arith, byte, is) | inr is ↦ omega (arith, byte, is) ]

    at_offset : IsCharBoundary bytes offset
    at_offset =
        let here : get_or bytes offset 0 < 128 = subst (λ k. get_or bytes k 0 < 128) (omega arith) (ascii_at 0 some) in
        IsCharBoundary-before_ascii bytes offset (omega (arith, fits, some)) here

    at_end : IsCharBoundary bytes (offset + count)
    at_end =
        subst (IsCharBoundary bytes) (omega (arith, some))
        (IsCharBoundary-after_ascii bytes (offset + (count - 1)) utf8 (omega (arith, fits, some)) (ascii_at (count - 1) (omega (arith, some))))

    front_text : IsUtf8 (take offset bytes)
    front_text = IsUtf8-take bytes offset utf8 at_offset

    back_text : IsUtf8 (drop (offset + count) bytes)
    back_text = IsUtf8-drop bytes (offset + count) utf8 at_end

    shorter : take (offset - front) (take offset bytes) ≡ take (offset - front) bytes
    shorter = take-take (offset - front) offset bytes (omega arith)

    before_text : IsUtf8 (take (offset - front) bytes)
    before_text = subst IsUtf8 shorter (IsUtf8-take (take offset bytes) (offset - front) front_text (begun front_text))

    starts : IsCharBoundary bytes (offset - front)
    starts = IsCharBoundary-from_take bytes (offset - front) utf8 (omega (arith, fits)) before_text

    stops : IsCharBoundary bytes (offset + count + back)
    stops = IsCharBoundary-from_rest bytes (offset + count) back fits (ended back_text)

    pub window_text : IsUtf8 window
    window_text = IsUtf8-between bytes (offset - front) (offset + count + back) utf8 (omega arith) starts stops

    abbrev side : List ℕ
    side = take front (drop (offset - front) bytes)

    side_text : IsUtf8 side
    side_text =
        subst (λ n. IsUtf8 (take n (drop (offset - front) bytes))) (omega (arith, within))
        (IsUtf8-between bytes (offset - front) offset utf8 (omega arith) starts at_offset)

    joined : take (offset - front) bytes ++ side ≡ take offset bytes
    joined =
        let cut : drop (offset - front) (take offset bytes) ≡ side =
        ap (λ n. drop (offset - front) (take n bytes)) (omega (arith, within)) ∙ drop-take (offset - front) front bytes in
        sym (ap (λ t. t ++ drop (offset - front) (take offset bytes)) shorter ∙ ap (λ t. take (offset - front) bytes ++ t) cut)
        ∙ take-append-drop (offset - front) (take offset bytes)

    pub same_before : (0 < offset → 0 < front) → char_before window front ≡ char_before bytes offset
    same_before more = elim (cases_lt 0 front) [
      | inl one ↦
          ap (λ t. last_or None (chars t)) take_front
          ∙ sym (last_char (take (offset - front) bytes) side before_text side_text
          (omega (arith, one, within, fits, length-take front (drop (offset - front) bytes), length-drop (offset - front) bytes)))
          ∙ ap (λ t. last_or None (chars t)) joined
      | inr none ↦
          let no_front : front ≡ 0 = omega (arith, none) in
          let no_offset : offset ≡ 0 = elim (cases_lt 0 offset) [
            | inl far ↦ omega (arith, none, more far)
            | inr near ↦ omega (arith, near)
          ] in
          ap (λ n. last_or None (chars (take n window))) no_front ∙ sym (ap (λ n. last_or None (chars (take n bytes))) no_offset)
    ]

    pub same_after : (0 < length (drop (offset + count) bytes) → 0 < back)
        → char_after window (front + count) ≡ char_after bytes (offset + count)
    same_after more =
        let rest = drop (offset + count) bytes in
        ap (λ t. slice_get (chars t) 0) drop_run
        ∙ elim (cases_lt 0 (length rest)) [
          | inl one ↦
              sym (first_char (take back rest) (drop back rest) (IsUtf8-take rest back back_text (ended back_text))
              (omega (arith, one, more one, length-take back rest)))
              ∙ ap (λ t. slice_get (chars t) 0) (take-append-drop back rest)
          | inr none ↦
              ap (λ t. slice_get (chars t) 0)
              (nil_from_length (take back rest) (omega (arith, none, length-take back rest)) ∙ sym (nil_from_length rest (omega (arith, none))))
        ]

    -- so the run is that of what stands around it
    pub same_around : (0 < offset → 0 < front) → (0 < length (drop (offset + count) bytes) → 0 < back)
        → IsSameAround window bytes front offset count
    same_around before after = record {
      asterisks = same_counts asterisk (omega (arith, counted));
      underscores = same_counts underscore (omega (arith, counted));
      before = same_before before;
      after = same_after after;
      counted = omega (arith, counted, same_counts asterisk (omega (arith, counted)), same_counts underscore (omega (arith, counted)));
    }
