-- The scheme of an address by the longest run of bytes at its front that can stand in one.
use Rattle.std.proofs.Common.{ℕ, zero, suc, ◌+◌, ◌<◌, ◌≤◌, ◌≡◌, Bool, true, false, ◌||◌, ◌&&◌, List, [], ◌∷◌, Option, Some, None, length, drop}
use Rattle.std.proofs.Common.{take, get_or, refl, sym, ap, ◌∙◌, arith, inl, inr, one-add, add-one}
use Rattle.std.specs.Prelude.{◌==◌, map, if◌then◌else◌}
use Rattle.std.specs.List.{prefix_len, list_any}
use Rattle.std.specs.Str.{bytes_eq}
use Rattle.std.specs.Char.{to_ascii_lowercase}
use Rattle.std.specs.Option.{option_map, option_map_or}
use Rattle.std.proofs.lemmas.Bool.{cases_Bool}
use Rattle.std.proofs.lemmas.Bool.Decides.{nat_tests}
use Rattle.std.proofs.Math.Seq.{drop-cons}
use Rattle.markdown_scanners_tree.specs.Ascii.{colon}
use Rattle.markdown_scanners_tree.specs.Bytes.{is_letter, begins_with}
use Rattle.markdown_scanners_tree.specs.scanners.links.Autolink.{is_scheme_byte}
use Rattle.markdown_html.specs.Addresses.{is_control_or_space, is_tab_or_newline, without_leading, without_breaks, scheme_state, scheme_start_state}
use Rattle.markdown_html.specs.Addresses.{is_allowed_scheme, is_allowed_address}

-- a byte that is passed over, or stands in a scheme
abbrev pub continues : ℕ → Bool
continues b = is_tab_or_newline b || is_scheme_byte b

-- the spelling of a scheme
abbrev pub spelled : List ℕ → List ℕ
spelled written = map to_ascii_lowercase (without_breaks written)

-- what is left after the leading controls and spaces
pub after_leading : (address : List ℕ) → drop (prefix_len is_control_or_space address) address ≡ without_leading address
after_leading [] = refl
after_leading (b ∷ bs) = elim (cases_Bool (is_control_or_space b)) [
  | inl leading ↦ rw (leading, one-add) (after_leading bs)
  | inr other ↦ rw other
]

-- the scheme that a colon ends after the longest run
abbrev pub scheme_found : List ℕ → Option (List ℕ)
scheme_found bytes =
    if begins_with (λ b. b == colon) (drop (prefix_len continues bytes) bytes)
    then Some (spelled (take (prefix_len continues bytes) bytes)) else None

more_found : (b : ℕ) (test : Bool) (written : List ℕ)
    → option_map (λ rest. to_ascii_lowercase b ∷ rest) (if test then Some written else None)
    ≡ (if test then Some (to_ascii_lowercase b ∷ written) else None)
more_found b true written = refl
more_found b false written = refl

-- the colon itself
found_at_colon : (b : ℕ) (bs : List ℕ) → b ≡ colon → scheme_state (without_breaks (b ∷ bs)) ≡ scheme_found (b ∷ bs)
found_at_colon b bs here = rw here refl

-- Scheme state by the longest run.
pub scheme_state-run : (bytes : List ℕ) → scheme_state (without_breaks bytes) ≡ scheme_found bytes
scheme_state-run [] = refl
scheme_state-run (b ∷ bs) = elim (cases_Bool (b == colon)) [
  | inl here ↦ found_at_colon b bs (grind (arith, nat_tests))
  | inr other ↦ elim (cases_Bool (is_tab_or_newline b)) [
    | inl passed ↦ rw (passed, one-add) (rw passed (scheme_state-run bs))
    | inr kept ↦ elim (cases_Bool (is_scheme_byte b)) [
      | inl inside ↦ rw (kept, other, inside, scheme_state-run bs, one-add) (rw kept (more_found b _ _))
      | inr outside ↦ rw (kept, other, outside) (rw other)
    ]
  ]
]

-- a letter
letter_stands : (b : ℕ) → is_letter b ≡ true → ((b == colon) ≡ false) × (is_scheme_byte b ≡ true)
letter_stands b letter = (grind (arith, nat_tests), rw letter)

visible : (b : ℕ) → is_control_or_space b ≡ false → is_tab_or_newline b ≡ false
visible b other = grind (arith, nat_tests)

pub begins_at : (p : ℕ → Bool) (bytes : List ℕ) → 0 < length bytes → begins_with p bytes ≡ p (get_or bytes 0 0)
begins_at p [] some = absurd (omega arith)
begins_at p (b ∷ bs) some = refl

-- After the leading ones, scheme start state is scheme state at a letter.
pub start_at_letter : (url : List ℕ) → begins_with is_control_or_space url ≡ false
    → scheme_start_state (without_breaks url) ≡ (if begins_with is_letter url then scheme_found url else None)
start_at_letter [] front = refl
start_at_letter (b ∷ bs) front = elim (cases_Bool (is_letter b)) [
  | inl letter ↦ rw (visible b front, letter, scheme_state-run bs, one-add) (rw (visible b front) (more_found b _ _))
  | inr other ↦ rw (visible b front, other)
]

pub passed_break : (written : List ℕ) (i : ℕ) → i < length written → is_tab_or_newline (get_or written i 0) ≡ true
    → without_breaks (drop i written) ≡ without_breaks (drop (i + 1) written)
passed_break written i inside is_break = rw (add-one, drop-cons written i 0, is_break)

pub kept_byte : (written : List ℕ) (i : ℕ) → i < length written → is_tab_or_newline (get_or written i 0) ≡ false
    → without_breaks (drop i written) ≡ get_or written i 0 ∷ without_breaks (drop (i + 1) written)
kept_byte written i inside kept = rw (add-one, drop-cons written i 0, kept)

pub begins_at_offset : (p : ℕ → Bool) (bytes : List ℕ) (n : ℕ) → n < length bytes → begins_with p (drop n bytes) ≡ p (get_or bytes n 0)
begins_at_offset p bytes n inside = rw (drop-cons bytes n 0)

pub no_more : (p : ℕ → Bool) (bytes : List ℕ) (n : ℕ) → length bytes ≤ n → begins_with p (drop n bytes) ≡ false
no_more p [] zero past = refl
no_more p [] (suc n) past = refl
no_more p (b ∷ bs) zero past = absurd (omega arith)
no_more p (b ∷ bs) (suc n) past = no_more p bs n (omega arith)

-- A letter is at the front, and a colon after the longest run.
pub written_found : (url : List ℕ) (n : ℕ) → begins_with is_control_or_space url ≡ false → 0 < length url
    → is_letter (get_or url 0 0) ≡ true → n ≡ prefix_len continues url → n < length url → get_or url n 0 ≡ colon
    → scheme_start_state (without_breaks url) ≡ Some (spelled (take n url))
written_found url n front some letter run inside here =
    let begun : begins_with is_letter url ≡ true = begins_at is_letter url some ∙ letter in
    let ends : begins_with (λ b. b == colon) (drop n url) ≡ true =
    begins_at_offset (λ b. b == colon) url n inside ∙ rw here refl in
    start_at_letter url front ∙ rw (begun, ← run, ends) refl

-- No colon is there.
pub none_written : (url : List ℕ) (n : ℕ) → begins_with is_control_or_space url ≡ false
    → n ≡ prefix_len continues url → begins_with (λ b. b == colon) (drop n url) ≡ false
    → scheme_start_state (without_breaks url) ≡ None
none_written url n front run ends =
    start_at_letter url front ∙ rw (← run, ends) (elim (cases_Bool (begins_with is_letter url)) [
      | inl letter ↦ rw letter
      | inr other ↦ rw other
    ])

pub not_colon : (b : ℕ) → (b ≡ 58 → ⊥) → (b == colon) ≡ false
not_colon b other = grind (arith, nat_tests)

drop_none : (xs : List ℕ) (n : ℕ) → length xs ≤ n → drop n xs ≡ []
drop_none [] zero past = refl
drop_none [] (suc n) past = refl
drop_none (x ∷ xs) zero past = absurd (omega arith)
drop_none (x ∷ xs) (suc n) past = drop_none xs n (omega arith)

-- how the rest of the bytes spells the rest of a scheme
abbrev pub rest_spells : List ℕ → ℕ → List ℕ → ℕ → Bool
rest_spells written i scheme read = bytes_eq (spelled (drop i written)) (map to_ascii_lowercase (drop read scheme))

pub too_many : (written : List ℕ) (i : ℕ) (scheme : List ℕ) (read : ℕ) → i < length written
    → is_tab_or_newline (get_or written i 0) ≡ false → length scheme ≤ read → rest_spells written i scheme read ≡ false
too_many written i scheme read inside kept past = rw (kept_byte written i inside kept, drop_none scheme read past) refl

next_of : (xs : List ℕ) (i : ℕ) → i < length xs → drop i xs ≡ get_or xs i 0 ∷ drop (i + 1) xs
next_of xs i inside = rw (add-one, drop-cons xs i 0)

pub one_more : (written : List ℕ) (i : ℕ) (scheme : List ℕ) (read : ℕ) → i < length written
    → is_tab_or_newline (get_or written i 0) ≡ false → read < length scheme
    → rest_spells written i scheme read
    ≡ ((to_ascii_lowercase (get_or written i 0) == to_ascii_lowercase (get_or scheme read 0)) && rest_spells written (i + 1) scheme (read + 1))
one_more written i scheme read inside kept more =
    rw (kept_byte written i inside kept, next_of scheme read more) refl

same_next : (r n : ℕ) → (suc r == suc n) ≡ (r == n)
same_next r n = grind (arith, nat_tests)

none_left : (n : ℕ) → (zero == suc n) ≡ false
none_left n = grind (arith, nat_tests)

all_read : (scheme : List ℕ) (read : ℕ) → read ≤ length scheme
    → (read == length scheme) ≡ bytes_eq [] (map to_ascii_lowercase (drop read scheme))
all_read [] zero within = refl
all_read [] (suc read) within = absurd (omega arith)
all_read (b ∷ scheme) zero within = none_left (length scheme)
all_read (b ∷ scheme) (suc read) within = same_next read (length scheme) ∙ all_read scheme read (omega arith)

pub at_the_end : (written : List ℕ) (i : ℕ) (scheme : List ℕ) (read : ℕ) → length written ≤ i → read ≤ length scheme
    → (read == length scheme) ≡ rest_spells written i scheme read
at_the_end written i scheme read past within = rw (drop_none written i past) (all_read scheme read within)

pub with_true : (test rest : Bool) → test ≡ true → (test && rest) ≡ rest
with_true test rest holds = rw holds

pub with_false : (test rest : Bool) → test ≡ false → (test && rest) ≡ false
with_false test rest fails = rw fails

list_any-map : {A B : Type 0} (see : A → B) (test : B → Bool) (xs : List A) → list_any (λ x. test (see x)) xs ≡ list_any test (map see xs)
list_any-map see test [] = refl
list_any-map see test (x ∷ xs) = ap (λ t. test (see x) || t) (list_any-map see test xs)

-- The scheme that is written is one of these.
pub listed : {A : Type 0} (see : A → List ℕ) (schemes : List A) (address url written : List ℕ) (result : Bool)
    → url ≡ without_leading address → scheme_start_state (without_breaks url) ≡ Some (spelled written)
    → result ≡ list_any (λ scheme. bytes_eq (spelled written) (map to_ascii_lowercase (see scheme))) schemes
    → result ≡ is_allowed_address (map see schemes) address
listed see schemes address url written result after found answer =
    answer ∙ list_any-map see (λ scheme. bytes_eq (spelled written) (map to_ascii_lowercase scheme)) schemes
    ∙ ap (λ scheme. option_map_or (is_allowed_scheme (map see schemes)) scheme true)
    (sym found ∙ ap (λ url. scheme_start_state (without_breaks url)) after)
