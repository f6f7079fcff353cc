-- Where a scan for a thematic break stops, and that none begins before.
use Rattle.std.proofs.Common.{◌≡◌, ℕ, zero, suc, ◌+◌, ◌-◌, ◌≤◌, ◌<◌, Bool, true, false, cond, ◌==◌, List, [], ◌∷◌, ◌++◌, length, take, drop, refl, sym, ap, ◌∙◌, arith, inl, inr, Some, None, one-add}
use Rattle.std.specs.List.{prefix_len, list_all, count_by, take_while}
use Rattle.std.proofs.lemmas.List.{take-append-drop, drop-append-le, length-drop, drop-drop}
use Rattle.std.proofs.lemmas.List.Sums.{take_while-cons, sum_by-take-drop}
use Rattle.std.proofs.lemmas.List.Folds.{length-prefix_len}
use Rattle.std.proofs.lemmas.Bool.{cases_Bool, eqb-true, cases_lt}
use Rattle.std.proofs.lemmas.Bool.Decides.{nat_tests}
use Rattle.std.proofs.Math.Seq.{drop-append_seam, take-append_seam}
use Rattle.markdown_scanners_tree.specs.Bytes.{begins_with, line_ending, line_head, line_length}
use Rattle.markdown_scanners_tree.specs.scanners.Breaks.{is_break_marker, is_break_byte, IsThematicBreakOf, IsThematicBreak, is_thematic_break}
use Rattle.markdown_scanners_tree.proofs.PrefixLemmas.{from_offset, both_true, list_all-prefix, list_all-implies, list_all-drop, begins_with-implies, begins_with-after_prefix, prefix_len-parts}
use Rattle.markdown_scanners_tree.proofs.scanners.lines.BlankLemmas.{ends_no_line, first-line_ending, line_ending-exists, head_parts, line_length-parts}
use Rattle.markdown_scanners_tree.proofs.scanners.breaks.BreakLemmas.{is_thematic_break-found, is_thematic_break-none}

break_in_line : (marker : ℕ) → is_break_marker marker ≡ true → (b : ℕ)
    → is_break_byte marker b ≡ true → ends_no_line b ≡ true
break_in_line marker marked b h = grind (arith, nat_tests)

-- A line ending follows, and three markers stand before it.
abbrev HasThreeAndEnd : ℕ → List ℕ → List ℕ → Type 0
HasThreeAndEnd marker prefix rest =
    ((ending : ℕ) × (line_ending rest ≡ Some ending)) × (3 ≤ count_by (λ b. b == marker) prefix)

-- Of a prefix of break bytes and a rest that does not begin with one, a thematic break of the
-- marker is the prefix and a line ending.
break_head : (marker : ℕ) (prefix rest : List ℕ) → list_all (is_break_byte marker) prefix ≡ true
    → begins_with (is_break_byte marker) rest ≡ false
    → IsThematicBreakOf marker (prefix ++ rest) → prefix_len ends_no_line (prefix ++ rest) ≡ length prefix
break_head marker prefix rest all stop break =
    let bytes = prefix ++ rest in
    let h = prefix_len ends_no_line (prefix ++ rest) in
    let whole : take h bytes ++ drop h bytes ≡ bytes = take-append-drop h bytes in
    let head_all : list_all (is_break_byte marker) (take h bytes) ≡ true = break.break_bytes_only in
    let tail_stop : begins_with (is_break_byte marker) (drop h bytes) ≡ false =
    begins_with-implies (is_break_byte marker) ends_no_line (break_in_line marker break.is_marker) (drop h bytes)
    (begins_with-after_prefix ends_no_line bytes) in
    let by_head = prefix_len-parts (is_break_byte marker) (take h bytes) (drop h bytes) head_all tail_stop in
    let by_prefix = prefix_len-parts (is_break_byte marker) prefix rest all stop in
    sym (length-prefix_len ends_no_line bytes) ∙ sym by_head
    ∙ ap (prefix_len (is_break_byte marker)) whole ∙ by_prefix

break_parts : (marker : ℕ) (prefix rest : List ℕ) → list_all (is_break_byte marker) prefix ≡ true
    → begins_with (is_break_byte marker) rest ≡ false
    → IsThematicBreakOf marker (prefix ++ rest)
    → HasThreeAndEnd marker prefix rest
break_parts marker prefix rest all stop break =
    let at = break_head marker prefix rest all stop break in
    let after = begins_with-after_prefix ends_no_line (prefix ++ rest) in (
      line_ending-exists rest (rw (at, drop-append_seam prefix rest) at after),
      rw (at, take-append_seam prefix rest) at break.at_least_three,
    )

-- where the bytes of a line that ends are all break bytes, they are its head
head_is : (marker : ℕ) (prefix rest : List ℕ) (ending : ℕ) → is_break_marker marker ≡ true
    → list_all (is_break_byte marker) prefix ≡ true → line_ending rest ≡ Some ending
    → prefix_len ends_no_line (prefix ++ rest) ≡ length prefix
head_is marker prefix rest ending marked all ends =
    head_parts prefix rest ending
    (list_all-implies (is_break_byte marker) ends_no_line (break_in_line marker marked) prefix all) ends

break_from_parts : (marker : ℕ) (prefix rest : List ℕ) (ending : ℕ) → is_break_marker marker ≡ true
    → begins_with (λ b. b == marker) prefix ≡ true → list_all (is_break_byte marker) prefix ≡ true
    → line_ending rest ≡ Some ending → 3 ≤ count_by (λ b. b == marker) prefix
    → IsThematicBreakOf marker (prefix ++ rest)
break_from_parts marker [] rest ending marked begins all ends three =
    absurd (let no_byte : false ≡ true = begins in cc)
break_from_parts marker (b ∷ prefix) rest ending marked begins all ends three =
    let head : take_while ends_no_line ((b ∷ prefix) ++ rest) ≡ b ∷ prefix =
    rw (head_is marker (b ∷ prefix) rest ending marked all ends) (take-append_seam (b ∷ prefix) rest) in
    record {
      is_marker = marked;
      begins_with_marker = rw head begins;
      break_bytes_only = rw head all;
      at_least_three = rw head three;
    }

-- A break begins with its marker.
break_begins : (marker : ℕ) (bytes : List ℕ) → IsThematicBreakOf marker bytes
    → begins_with (λ b. b == marker) bytes ≡ true
break_begins marker bytes break = first bytes break.begins_with_marker
  where
    first : (bytes : List ℕ) → begins_with (λ b. b == marker) (line_head bytes) ≡ true
        → begins_with (λ b. b == marker) bytes ≡ true
    first [] begins = begins
    first (b ∷ bytes) begins =
        let head : begins_with (λ b. b == marker) (cond (ends_no_line b) (b ∷ line_head bytes) []) ≡ true =
        ap (begins_with (λ b. b == marker)) (sym (take_while-cons ends_no_line b bytes)) ∙ begins in
        elim (cases_Bool (ends_no_line b)) [
          | inl goes ↦ rw goes at head
          | inr ends ↦ absurd (let none = rw ends at head in cc)
        ]

one_marker : (marker other : ℕ) → is_break_marker other ≡ true → is_break_byte marker other ≡ true → other ≡ marker
one_marker marker other marked is_byte = grind (arith, nat_tests)

-- No break begins at a byte of a prefix of break bytes, if none begins with all of it.
no_break_at : (marker other : ℕ) (prefix rest : List ℕ) → 1 ≤ length prefix
    → list_all (is_break_byte marker) prefix ≡ true → begins_with (is_break_byte marker) rest ≡ false
    → (HasThreeAndEnd marker prefix rest → ⊥) → ¬ IsThematicBreakOf other (prefix ++ rest)
no_break_at marker other [] rest some all stop refused break = absurd (omega arith)
no_break_at marker other (b ∷ prefix) rest some all stop refused break =
    let begins = break_begins other (b ∷ prefix ++ rest) break in
    let is_byte : is_break_byte marker b ≡ true =
    (both_true (is_break_byte marker b) (list_all (is_break_byte marker) prefix) all).0 in
    let same = one_marker marker other break.is_marker (rw (eqb-true b other begins) at is_byte) in
    refused (break_parts marker (b ∷ prefix) rest all stop (rw same at break))

count_by-drop-le : (p : ℕ → Bool) (k : ℕ) (bytes : List ℕ) → count_by p (drop k bytes) ≤ count_by p bytes
count_by-drop-le p k bytes = omega (arith, sum_by-take-drop (λ x. cond (p x) 1 0) bytes k)

no_break_in_prefix : (marker : ℕ) (prefix rest : List ℕ) → list_all (is_break_byte marker) prefix ≡ true
    → begins_with (is_break_byte marker) rest ≡ false
    → (HasThreeAndEnd marker prefix rest → ⊥) → (k : ℕ) → k < length prefix
    → ¬ IsThematicBreak (drop k (prefix ++ rest))
no_break_in_prefix marker prefix rest all stop refused k lt (other, break) =
    let le : k ≤ length prefix = omega arith in
    let some : 1 ≤ length (drop k prefix) = omega (arith, length-drop k prefix) in
    no_break_at marker other (drop k prefix) rest some (list_all-drop (is_break_byte marker) k prefix all) stop
    (λ (found : HasThreeAndEnd marker (drop k prefix) rest).
    refused (found.0, omega (arith, found.1, count_by-drop-le (λ b. b == marker) k prefix)))
    (rw (drop-append-le k prefix rest le) at break)

-- A line ending holds no marker.
ending_marker : (rest : List ℕ) (ending j : ℕ) → line_ending rest ≡ Some ending → j < ending
    → begins_with is_break_marker (drop j rest) ≡ false
ending_marker [] ending j ends lt = let zero_is : 0 ≡ ending = cc in absurd (omega arith)
ending_marker (b ∷ bytes) ending zero ends lt = first-line_ending is_break_marker refl refl (b ∷ bytes) ending ends
ending_marker (b ∷ bytes) ending (suc zero) ends lt =
    elim (cases_Bool (begins_with (λ c. c == 10) bytes)) [
      | inl lf ↦ no_marker bytes lf
      | inr no_lf ↦ absurd (let short = at_most_one b bytes ending no_lf ends in omega (arith, short))
    ]
  where
    no_marker : (bytes : List ℕ) → begins_with (λ c. c == 10) bytes ≡ true → begins_with is_break_marker bytes ≡ false
    no_marker [] lf = refl
    no_marker (c ∷ bytes) lf = rw (eqb-true c 10 lf) refl

    at_most_one : (b : ℕ) (bytes : List ℕ) (ending : ℕ) → begins_with (λ c. c == 10) bytes ≡ false
        → line_ending (b ∷ bytes) ≡ Some ending → ending ≤ 1
    at_most_one b bytes ending no_lf ends = grind (arith, nat_tests)
ending_marker (b ∷ bytes) ending (suc (suc j)) ends lt =
    absurd (let short = at_most_two b bytes ending ends in omega (arith, short))
  where
    at_most_two : (b : ℕ) (bytes : List ℕ) (ending : ℕ) → line_ending (b ∷ bytes) ≡ Some ending → ending ≤ 2
    at_most_two b bytes ending ends = grind (arith, nat_tests)

no_break_in_ending : (rest : List ℕ) (ending j : ℕ) → line_ending rest ≡ Some ending → j < ending
    → ¬ IsThematicBreak (drop j rest)
no_break_in_ending rest ending j ends lt (marker, break) =
    let begins = break_begins marker (drop j rest) break in
    let no_marker = begins_with-implies (λ b. b == marker) is_break_marker
    (λ b same. rw (eqb-true b marker same) break.is_marker) (drop j rest) (ending_marker rest ending j ends lt) in
    cc

-- what a scan knows that has read the longest prefix of break bytes, and looks for a line ending after it
module _ (bytes : List ℕ) (marker run : ℕ) (marked : is_break_marker marker ≡ true) (begins : begins_with
    (λ b. b == marker) bytes ≡ true) (is_run : run ≡ prefix_len (is_break_byte marker) bytes) where
  prefix_all : list_all (is_break_byte marker) (take run bytes) ≡ true
  prefix_all = rw is_run (list_all-prefix (is_break_byte marker) bytes)

  prefix_stop : begins_with (is_break_byte marker) (drop run bytes) ≡ false
  prefix_stop = rw is_run (begins_with-after_prefix (is_break_byte marker) bytes)

  prefix_length : length (take run bytes) ≡ run
  prefix_length = rw is_run (length-prefix_len (is_break_byte marker) bytes)

  prefix_begins : begins_with (λ b. b == marker) (take run bytes) ≡ true
  prefix_begins = rw is_run (first marker bytes marked begins)
    where
      first : (marker : ℕ) (bytes : List ℕ) → is_break_marker marker ≡ true
          → begins_with (λ b. b == marker) bytes ≡ true
          → begins_with (λ b. b == marker) (take (prefix_len (is_break_byte marker) bytes) bytes) ≡ true
      first marker [] marked begins = begins
      first marker (b ∷ bytes) marked begins = let same : (b == marker) ≡ true = begins in rw (same, one-add) same

  none_in_prefix : (HasThreeAndEnd marker (take run bytes) (drop run bytes) → ⊥)
      → (k : ℕ) → k < run → ¬ IsThematicBreak (drop k bytes)
  none_in_prefix refused k lt break =
      let inside : k < length (take run bytes) = omega (arith, prefix_length) in
      no_break_in_prefix marker (take run bytes) (drop run bytes) prefix_all prefix_stop refused k inside
      (rw (take-append-drop run bytes) break)

  some_prefix : 0 < run
  some_prefix = some (take run bytes) prefix_begins prefix_length
    where
      some : (prefix : List ℕ) → begins_with (λ b. b == marker) prefix ≡ true → length prefix ≡ run → 0 < run
      some [] begins counted = absurd (let no_byte : false ≡ true = begins in cc)
      some (b ∷ prefix) begins counted = omega (arith, counted)

  pub none_at_all : (HasThreeAndEnd marker (take run bytes) (drop run bytes) → ⊥) → ¬ IsThematicBreak bytes
  none_at_all refused break = none_in_prefix refused 0 some_prefix break

  none_in_line : (ending : ℕ) → line_ending (drop run bytes) ≡ Some ending
      → (3 ≤ count_by (λ b. b == marker) (take run bytes) → ⊥) → (k : ℕ) → k < run + ending
      → ¬ IsThematicBreak (drop k bytes)
  none_in_line ending ends few k lt break =
      elim (cases_lt k run) [
        | inl before ↦
            none_in_prefix (λ (found : HasThreeAndEnd marker (take run bytes) (drop run bytes)). few found.1)
            k before break
        | inr after ↦ (
            let at : drop k bytes ≡ drop (k - run) (drop run bytes) = (let n : run + (k - run) ≡ k = omega arith in
            sym (drop-drop (k - run) run bytes ∙ ap (λ n. drop n bytes) n)) in
            no_break_in_ending (drop run bytes) ending (k - run) ends (omega arith) (rw at at break))
      ]

  found_in_line : (ending : ℕ) → line_ending (drop run bytes) ≡ Some ending
      → 3 ≤ count_by (λ b. b == marker) (take run bytes) → IsThematicBreak bytes × (run + ending ≡ line_length bytes)
  found_in_line ending ends three =
      let whole : take run bytes ++ drop run bytes ≡ bytes = take-append-drop run bytes in
      let counted = line_length-parts (take run bytes) (drop run bytes) ending (list_all-implies
      (is_break_byte marker) ends_no_line (break_in_line marker marked) (take run bytes) prefix_all) ends in (
        (
          marker,
          rw whole at (break_from_parts marker (take run bytes)
              (drop run bytes) ending marked prefix_begins prefix_all ends three),
        ),
        ap (λ n. n + ending) (sym prefix_length) ∙ sym counted ∙ ap line_length whole,
      )

  -- the same, by what the calls answered
  module _ (markers : ℕ) (is_count : markers ≡ count_by (λ b. b == marker) (take run bytes)) where
    pub scanned_none : None ≡ line_ending (take (length bytes - run) (drop run bytes))
        → (is_thematic_break bytes ≡ false) × ((k : ℕ) → k < run → is_thematic_break (drop k bytes) ≡ false)
    scanned_none ends =
        let none : None ≡ line_ending (drop run bytes) = rw (from_offset bytes run) at ends in
        let refused : HasThreeAndEnd marker (take run bytes) (drop run bytes) → ⊥ =
        λ found. (let some = found.0.1 in cc) in (
          is_thematic_break-none bytes (none_at_all refused),
          λ k lt. is_thematic_break-none (drop k bytes) (none_in_prefix refused k lt),
        )

    pub scanned_few : (ending : ℕ)
        → Some ending ≡ line_ending (take (length bytes - run) (drop run bytes)) → markers < 3
        → (is_thematic_break bytes ≡ false) × ((k : ℕ) → k < run + ending → is_thematic_break (drop k bytes) ≡ false)
    scanned_few ending ends few =
        let some : Some ending ≡ line_ending (drop run bytes) = rw (from_offset bytes run) at ends in (
          is_thematic_break-none bytes (none_at_all
              (λ (found : HasThreeAndEnd marker (take run bytes) (drop run bytes)). omega (arith, found.1, is_count))),
          λ k lt. is_thematic_break-none (drop k bytes) (none_in_line ending (sym some)
              (λ (three : 3 ≤ count_by (λ b. b == marker) (take run bytes)). omega (arith, three, is_count)) k lt),
        )

    pub scanned_break : (ending : ℕ) → Some ending ≡ line_ending (take (length bytes - run) (drop run bytes))
        → 3 ≤ markers → (is_thematic_break bytes ≡ true) × (run + ending ≡ line_length bytes)
    scanned_break ending ends three =
        let some : Some ending ≡ line_ending (drop run bytes) = rw (from_offset bytes run) at ends in
        let found = found_in_line ending (sym some) (omega (arith, three, is_count)) in
        (is_thematic_break-found bytes found.0, found.1)
