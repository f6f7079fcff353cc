-- What a line that is written out has in common with the line.
use Rattle.std.specs.Prelude.{ℕ, zero, suc, not, if◌then◌else◌, Bool, true, false, ◌≡◌, refl, ◌==◌, ◌&&◌, List, [], ◌∷◌, ◌++◌, ◌+◌, ◌-◌, length, take, drop, nat_le, Option, Some, None}
use Rattle.std.proofs.Common.{cond, sym, ◌∙◌, ap, arith, zero-add}
use Rattle.std.specs.List.{list_all, count_by, prefix_len}
use Rattle.std.proofs.lemmas.Bool.Decides.{nat_tests}
use Rattle.std.proofs.lemmas.List.{take-append-drop}
use Rattle.std.proofs.lemmas.List.Folds.{length-prefix_len}
use Rattle.std.proofs.lemmas.List.Sums.{take_while-cons, sum_by-cons}
use Rattle.std.proofs.Math.Seq.{take-append_seam, drop-append_seam}
use Rattle.markdown_scanners_tree.specs.Bytes.{begins_with, is_digit, is_white_space_in_line, is_line_ending, is_at_line_end, line_head, is_blank}
use Rattle.markdown_scanners_tree.specs.Columns.{column_after, written_byte, written_out}
use Rattle.markdown_scanners_tree.specs.scanners.list_items.ListMarker.{Marker, is_bullet, is_delimiter, bullet_marker, ordered_marker, ordered_marker_of, list_marker}
use Rattle.markdown_scanners_tree.specs.scanners.Breaks.{is_break_marker, is_break_byte, is_break_head, is_thematic_break}
use Rattle.markdown_scanners_tree.proofs.line.ColumnLemmas.{after-more, bool_cases, written-end, written-cons}
use Rattle.markdown_scanners_tree.proofs.PrefixLemmas.{both_true, list_all-implies, list_all-prefix}
use Rattle.markdown_scanners_tree.proofs.line.SpaceLemmas.{spaces}

-- a tab begins with a space where it is written out, and each other byte is itself
pub written-first : (c b : ℕ) (bs : List ℕ)
    → (more : List ℕ) × (written_out c (b ∷ bs) ≡ (if b == 9 then 32 else b) ∷ more)
written-first c b bs =
    bool_cases (is_line_ending b)
    (λ ends.
    let other : (b == 9) ≡ false = grind (arith, nat_tests) in
    (bs, written-end c b bs ends ∙ rw other refl))
    (λ goes.
    let back = written_out (column_after c b) bs in
    bool_cases (b == 9)
    (λ tab.
    let w = column_after c b - c - 1 in
    let more = after-more c b in
    let width : column_after c b - c ≡ suc w = omega arith in
    let first : written_byte c b ≡ spaces (column_after c b - c) = rw tab refl in
    let begins : written_byte c b ≡ 32 ∷ spaces w = first ∙ ap spaces width in
    (spaces w ++ back, written-cons c b bs goes ∙ ap (λ front. front ++ back) begins ∙ rw tab refl))
    (λ plain. (back, written-cons c b bs goes ∙ rw plain refl)))

-- a line ends where the written out line does
pub line_end-written : (bs : List ℕ) (c : ℕ) → is_at_line_end (written_out c bs) ≡ is_at_line_end bs
line_end-written [] c = refl
line_end-written (b ∷ bs) c =
    ap is_at_line_end (written-first c b bs).1
    ∙ bool_cases (b == 9)
    (λ tab. let e : b ≡ 9 = grind (arith, nat_tests) in rw e refl)
    (λ plain. rw plain refl)

-- a byte that is no space begins what is written out where it begins the bytes
pub begins-written : (x : ℕ) → (x == 32) ≡ false → (x == 9) ≡ false → (bs : List ℕ) (c : ℕ)
    → begins_with (λ b. b == x) (written_out c bs) ≡ begins_with (λ b. b == x) bs
begins-written x no_space no_tab [] c = refl
begins-written x no_space no_tab (b ∷ bs) c =
    ap (begins_with (λ b. b == x)) (written-first c b bs).1
    ∙ bool_cases (b == 9)
    (λ tab.
    let space : (32 == x) ≡ false = grind (arith, nat_tests) in
    let here : (b == x) ≡ false = grind (arith, nat_tests) in
    rw (tab, space, here) refl)
    (λ plain. rw plain refl)

-- a byte that ends no line
abbrev goes_on : ℕ → Bool
goes_on b = not (is_line_ending b)

pub head-cons : (b : ℕ) (bs : List ℕ) → is_line_ending b ≡ false → line_head (b ∷ bs) ≡ b ∷ line_head bs
head-cons b bs goes = take_while-cons goes_on b bs ∙ rw goes refl

head-spaces : (n : ℕ) (bs : List ℕ) → line_head (spaces n ++ bs) ≡ spaces n ++ line_head bs
head-spaces zero bs = refl
head-spaces (suc n) bs = head-cons 32 (spaces n ++ bs) refl ∙ ap (λ h. 32 ∷ h) (head-spaces n bs)

-- what is given of a head byte by byte, where a space tells nothing
module _ {A : Type 0} (of : List ℕ → A) (step : ℕ → A → A) (cons : (b : ℕ) (h : List ℕ) → of (b ∷ h) ≡ step b (of h))
    (space : (a : A) → step 32 a ≡ a) where
  past-spaces : (n : ℕ) (h : List ℕ) → of (spaces n ++ h) ≡ of h
  past-spaces zero h = refl
  past-spaces (suc n) h = cons 32 (spaces n ++ h) ∙ space (of (spaces n ++ h)) ∙ past-spaces n h

  -- where a tab tells nothing too, the same is given of both heads
  head-written : ((a : A) → step 9 a ≡ a) → (bs : List ℕ) (c : ℕ)
      → of (line_head (written_out c bs)) ≡ of (line_head bs)
  head-written tab [] c = refl
  head-written tab (b ∷ bs) c =
      bool_cases (is_line_ending b)
      (λ ends. ap (λ w. of (line_head w)) (written-end c b bs ends))
      (λ goes.
      let back = written_out (column_after c b) bs in
      let rest : of (line_head back) ≡ of (line_head bs) = head-written tab bs (column_after c b) in
      let line : of (line_head (b ∷ bs)) ≡ step b (of (line_head bs)) =
      ap of (head-cons b bs goes) ∙ cons b (line_head bs) in
      ap (λ w. of (line_head w)) (written-cons c b bs goes)
      ∙ bool_cases (b == 9)
      (λ is_tab.
      let e : b ≡ 9 = grind (arith, nat_tests) in
      let w = column_after c b - c in
      let first : written_byte c b ≡ spaces w = rw is_tab refl in
      ap (λ f. of (line_head (f ++ back))) first ∙ ap of (head-spaces w back) ∙ past-spaces w (line_head back)
      ∙ rest ∙ sym (line ∙ ap (λ x. step x (of (line_head bs))) e ∙ tab (of (line_head bs))))
      (λ plain.
      let first : written_byte c b ≡ b ∷ [] = rw plain refl in
      ap (λ f. of (line_head (f ++ back))) first ∙ ap of (head-cons b back goes) ∙ cons b (line_head back)
      ∙ ap (step b) rest ∙ sym line))

-- a test that spaces and tabs pass holds of each byte of both heads alike
all-written : (p : ℕ → Bool) → p 32 ≡ true → p 9 ≡ true → (bs : List ℕ) (c : ℕ)
    → list_all p (line_head (written_out c bs)) ≡ list_all p (line_head bs)
all-written p space tab =
    head-written (list_all p) (λ b t. p b && t) (λ b h. refl) (λ t. rw space refl) (λ t. rw tab refl)

-- a test that no space or tab passes is passed as often in both heads
count-written : (p : ℕ → Bool) → p 32 ≡ false → p 9 ≡ false → (bs : List ℕ) (c : ℕ)
    → count_by p (line_head (written_out c bs)) ≡ count_by p (line_head bs)
count-written p space tab =
    head-written (count_by p) (λ b n. cond (p b) 1 0 + n) (λ b h. sum_by-cons (λ x. cond (p x) 1 0) b h)
    (λ n. rw space (zero-add n)) (λ n. rw tab (zero-add n))

-- what is left of a line is blank where its bytes are
pub blank-written : (n : ℕ) (bs : List ℕ) (c : ℕ) → is_blank (spaces n ++ written_out c bs) ≡ is_blank bs
blank-written n bs c =
    ap (list_all is_white_space_in_line) (head-spaces n (written_out c bs))
    ∙ past-spaces (list_all is_white_space_in_line) (λ b t. is_white_space_in_line b && t) (λ b h. refl) (λ t. refl) n
    (line_head (written_out c bs))
    ∙ all-written is_white_space_in_line refl refl bs c

-- the head that begins with a marker, as a thematic break of it
abbrev break_of : ℕ → List ℕ → Bool
break_of marker head =
    is_break_marker marker && list_all (is_break_byte marker) head && nat_le 3 (count_by (λ b. b == marker) head)

break-written : (b c : ℕ) (bs : List ℕ) → break_of b (line_head (written_out c bs)) ≡ break_of b (line_head bs)
break-written b c bs =
    bool_cases (is_break_marker b)
    (λ marks.
    let space : is_break_byte b 32 ≡ true = grind (arith, nat_tests) in
    let tab : is_break_byte b 9 ≡ true = grind (arith, nat_tests) in
    let no_space : (32 == b) ≡ false = grind (arith, nat_tests) in
    let no_tab : (9 == b) ≡ false = grind (arith, nat_tests) in
    rw (all-written (is_break_byte b) space tab bs c, count-written (λ x. x == b) no_space no_tab bs c) refl)
    (λ other. rw other refl)

-- a thematic break begins where one begins in the line
thematic_break-written : (bs : List ℕ) (c : ℕ) → is_thematic_break (written_out c bs) ≡ is_thematic_break bs
thematic_break-written [] c = refl
thematic_break-written (b ∷ bs) c =
    bool_cases (is_line_ending b)
    (λ ends. ap is_thematic_break (written-end c b bs ends))
    (λ goes.
    let back = written_out (column_after c b) bs in
    bool_cases (b == 9)
    (λ tab.
    let more = (written-first c b bs).0 in
    let first : written_out c (b ∷ bs) ≡ 32 ∷ more = (written-first c b bs).1 ∙ rw tab refl in
    let unmarked : is_break_marker b ≡ false = grind (arith, nat_tests) in
    ap is_thematic_break first ∙ ap is_break_head (head-cons 32 more refl)
    ∙ sym (ap is_break_head (head-cons b bs goes) ∙ rw unmarked refl))
    (λ plain.
    let first : written_out c (b ∷ bs) ≡ b ∷ back = written-cons c b bs goes ∙ rw plain refl in
    let head : line_head (written_out c (b ∷ bs)) ≡ b ∷ line_head back = ap line_head first ∙ head-cons b back goes in
    ap is_break_head head ∙ ap (break_of b) (sym head) ∙ break-written b c (b ∷ bs)
    ∙ ap (break_of b) (head-cons b bs goes) ∙ sym (ap is_break_head (head-cons b bs goes))))

-- the digits at the front are those of the line, and so is what follows them
digits-written : (bs : List ℕ) (c : ℕ) → prefix_len is_digit (written_out c bs) ≡ prefix_len is_digit bs
digits-written [] c = refl
digits-written (b ∷ bs) c =
    bool_cases (is_digit b)
    (λ digit.
    let goes : is_line_ending b ≡ false = grind (arith, nat_tests) in
    let plain : (b == 9) ≡ false = grind (arith, nat_tests) in
    let first : written_out c (b ∷ bs) ≡ b ∷ written_out (c + 1) bs = written-cons c b bs goes ∙ rw plain refl in
    ap (prefix_len is_digit) first ∙ rw digit (ap (λ n. 1 + n) (digits-written bs (c + 1))))
    (λ other.
    let e = written-first c b bs in
    let none : is_digit (if b == 9 then 32 else b) ≡ false =
    bool_cases (b == 9) (λ tab. rw tab refl) (λ plain. rw plain other) in
    ap (prefix_len is_digit) e.1 ∙ rw (none, other) refl)

-- a byte that is no tab and ends no line takes one column, and is itself where it is written out
abbrev pub is_one_column : ℕ → Bool
is_one_column b = not (b == 9) && not (is_line_ending b)

-- the list marker of what is written out is that of the line
bullet-written : (bs : List ℕ) (c : ℕ) → bullet_marker (written_out c bs) ≡ bullet_marker bs
bullet-written [] c = refl
bullet-written (b ∷ bs) c =
    let e = written-first c b bs in
    bool_cases (b == 9)
    (λ tab.
    let first : written_out c (b ∷ bs) ≡ 32 ∷ e.0 = e.1 ∙ rw tab refl in
    let other : is_bullet b ≡ false = grind (arith, nat_tests) in
    ap bullet_marker first ∙ rw other refl)
    (λ plain.
    let first : written_out c (b ∷ bs) ≡ b ∷ e.0 = e.1 ∙ rw plain refl in
    let break : is_thematic_break (b ∷ e.0) ≡ is_thematic_break (b ∷ bs) =
    ap is_thematic_break (sym first) ∙ thematic_break-written (b ∷ bs) c in
    ap bullet_marker first
    ∙ ap (λ t. cond (is_bullet b && not t) (Some (record { width = 1; delimiter = b; start = 0 })) None) break)

no_delimiter : (digits back : List ℕ) (d : ℕ) → is_delimiter d ≡ false → ordered_marker_of digits (d ∷ back) ≡ None
no_delimiter digits back d other =
    bool_cases (nat_le 1 (length digits) && nat_le (length digits) 9)
    (λ few. rw (few, other) refl) (λ many. rw many refl)

ordered-written : (digits back : List ℕ) (c : ℕ)
    → ordered_marker_of digits (written_out c back) ≡ ordered_marker_of digits back
ordered-written digits [] c = refl
ordered-written digits (d ∷ back) c =
    let e = written-first c d back in
    bool_cases (d == 9)
    (λ tab.
    let first : written_out c (d ∷ back) ≡ 32 ∷ e.0 = e.1 ∙ rw tab refl in
    let other : is_delimiter d ≡ false = grind (arith, nat_tests) in
    ap (ordered_marker_of digits) first ∙ no_delimiter digits e.0 32 refl ∙ sym (no_delimiter digits back d other))
    (λ plain.
    let first : written_out c (d ∷ back) ≡ d ∷ e.0 = e.1 ∙ rw plain refl in
    ap (ordered_marker_of digits) first)

pub digit_one_column : (b : ℕ) → is_digit b ≡ true → is_one_column b ≡ true
digit_one_column b digit = grind (arith, nat_tests)

front-written : (front back : List ℕ) (c : ℕ) → list_all is_one_column front ≡ true
    → written_out c (front ++ back) ≡ front ++ written_out (c + length front) back
front-written [] back c all = let e : c + 0 ≡ c = omega arith in rw e refl
front-written (b ∷ front) back c all =
    let both = both_true (is_one_column b) (list_all is_one_column front) all in
    let plain : (b == 9) ≡ false = (let h = both.0 in grind (arith, nat_tests)) in
    let goes : is_line_ending b ≡ false = (let h = both.0 in grind (arith, nat_tests)) in
    let first : written_out c (b ∷ (front ++ back)) ≡ b ∷ written_out (c + 1) (front ++ back) =
    written-cons c b (front ++ back) goes ∙ rw plain refl in
    let e : c + 1 + length front ≡ c + length (b ∷ front) = omega arith in
    first ∙ ap (λ w. b ∷ w) (front-written front back (c + 1) both.1) ∙ rw e refl

-- the ordered list marker whose digits are the first n bytes
abbrev pub marker_of : ℕ → List ℕ → Option Marker
marker_of n r = ordered_marker_of (take n r) (drop (length (take n r)) r)

pub marker_of-parts : (n : ℕ) (digits back : List ℕ) → length digits ≡ n
    → marker_of n (digits ++ back) ≡ ordered_marker_of digits back
marker_of-parts n digits back count =
    let front : take n (digits ++ back) ≡ digits =
    ap (λ k. take k (digits ++ back)) (sym count) ∙ take-append_seam digits back in
    ap (λ x. ordered_marker_of x (drop (length x) (digits ++ back))) front
    ∙ ap (ordered_marker_of digits) (drop-append_seam digits back)

ordered_marker-written : (bs : List ℕ) (c : ℕ) → ordered_marker (written_out c bs) ≡ ordered_marker bs
ordered_marker-written bs c =
    let n = prefix_len is_digit bs in
    let digits = take n bs in
    let back = drop n bs in
    let count : length digits ≡ n = length-prefix_len is_digit bs in
    let whole : digits ++ back ≡ bs = take-append-drop n bs in
    let plain : list_all is_one_column digits ≡ true =
    list_all-implies is_digit is_one_column digit_one_column digits (list_all-prefix is_digit bs) in
    let written : written_out c bs ≡ digits ++ written_out (c + length digits) back =
    ap (written_out c) (sym whole) ∙ front-written digits back c plain in
    ap (λ k. marker_of k (written_out c bs)) (digits-written bs c) ∙ ap (marker_of n) written
    ∙ marker_of-parts n digits (written_out (c + length digits) back) count
    ∙ ordered-written digits back (c + length digits)
    ∙ sym (ap (marker_of n) (sym whole) ∙ marker_of-parts n digits back count)

-- a bullet before an ordered marker
abbrev pub pick : Option Marker → Option Marker → Option Marker
pick o other = elim o as (λ _. Option Marker) [ Some m ↦ Some m | None ↦ other ]

pub list_marker-written : (bs : List ℕ) (c : ℕ) → list_marker (written_out c bs) ≡ list_marker bs
list_marker-written bs c =
    ap (λ o. pick o (ordered_marker (written_out c bs))) (bullet-written bs c)
    ∙ ap (pick (bullet_marker bs)) (ordered_marker-written bs c)
