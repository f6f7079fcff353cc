-- The key of a label is at most three times as long, and two labels with one key match.
use Rattle.std.proofs.Common.{ℕ, ◌↔◌, nat_eq, sym, ◌*◌, ◌≤◌, ◌<◌, ◌≡◌, ◌∙◌, List, [], ◌∷◌, length}
use Rattle.std.proofs.Common.{length-append, nat_le, encode_utf8, encode_utf8_all, IsUtf8, IsAscii, map, chars, inl, inr, refl, ap, arith}
use lib.Utf8.{encode}
use Rattle.std.specs.Char.{len_utf8, to_ascii_lowercase}
use Rattle.std.specs.Cmp.Lexicographic.{pointwise, same_text, other_text}
use Rattle.std.proofs.lemmas.Bool.{cases_Bool, cases_lt, leb-true}
use Rattle.std.proofs.lemmas.Bool.Decides.{nat_tests}
use Rattle.std.proofs.lemmas.Str.{length-encode, encodes-append, encodes-chars, encodes_same, chars-IsAscii, IsUtf8-from_ascii}
use Rattle.std.proofs.lemmas.Str.Ascii.{IsAscii-map, lowercase_ascii}
use Rattle.ucd_table.proofs.Computing.{tables}
use Rattle.ucd_table.proofs.RangedFacts.{values_ok, Stepped-at_values}
use Rattle.ucd_case.specs.CaseFolding.{full_folding, or_itself, full_fold}
use Rattle.ucd_case.proofs.CaseFoldingLemmas.{full_folding_stepped, full_fold-ascii}
use Rattle.caseless.specs.Caseless.{default_case_fold}
use Rattle.caseless.proofs.CaselessLemmas.{default_case_fold-nil, default_case_fold-cons}
use Rattle.markdown_scanners_tree.specs.linklabel.Key.{label_key}
use Rattle.markdown_scanners_tree.proofs.linklabel.AsciiKeys.{label_key-ascii}
use Rattle.markdown_scanners_c.specs.Keys.{key_bytes}
use Rattle.markdown_scanners_c.specs.Labels.{match_status}
use Rattle.markdown_scanners_c.specs.Status.{ok}

-- what a character folds to has at most six bytes, where it doesn't fold to itself
folded_short : (c : ℕ) → length (encode_utf8_all (full_folding c)) ≤ 6
unfolding tables values_ok full_folding_stepped encode
folded_short c =
    leb-true _ 6 (Stepped-at_values full_folding full_folding_stepped (λ cs. nat_le (length (encode_utf8_all cs)) 6) refl c)

two_bytes : (c : ℕ) → 128 ≤ c → 2 ≤ len_utf8 c
two_bytes c wide = grind (arith, nat_tests)

one_byte : (c : ℕ) → 1 ≤ len_utf8 c
one_byte c = grind (arith, nat_tests)

lower_byte : (c : ℕ) → c < 128 → len_utf8 (to_ascii_lowercase c) ≡ 1
lower_byte c ascii = grind (arith, nat_tests)

-- one character alone
encoded_one : (c : ℕ) → length (encode_utf8_all (c ∷ [])) ≡ len_utf8 c
encoded_one c = omega (arith, length-append (encode_utf8 c) [], length-encode c)

wide_fold : (c : ℕ) (cs : List ℕ) → 128 ≤ c → length (encode_utf8_all cs) ≤ 6
    → length (encode_utf8_all (or_itself c cs)) ≤ 3 * len_utf8 c
wide_fold c [] wide short = omega (arith, encoded_one c)
wide_fold c (x ∷ xs) wide short = omega (arith, short, two_bytes c wide)

folded_room : (c : ℕ) → length (encode_utf8_all (full_fold c)) ≤ 3 * len_utf8 c
folded_room c = elim (cases_lt c 128) [
  | inl ascii ↦
      omega (arith, ap (λ cs. length (encode_utf8_all cs)) (full_fold-ascii c ascii), encoded_one (to_ascii_lowercase c), lower_byte c ascii, one_byte c)
  | inr wide ↦ wide_fold c (full_folding c) wide (folded_short c)
]

text_room : (cs : List ℕ) → length (encode_utf8_all (default_case_fold cs)) ≤ 3 * length (encode_utf8_all cs)
text_room [] = omega (arith, ap (λ cs. length (encode_utf8_all cs)) default_case_fold-nil)
text_room (c ∷ cs) =
    let parts = ap (λ ds. length (encode_utf8_all ds)) (default_case_fold-cons c cs) in
    let split = ap length (encodes-append (full_fold c) (default_case_fold cs)) in
    let sum = length-append (encode_utf8_all (full_fold c)) (encode_utf8_all (default_case_fold cs)) in
    let whole = length-append (encode_utf8 c) (encode_utf8_all cs) in
    omega (arith, parts, split, sum, whole, length-encode c, folded_room c, text_room cs)

pub key_room : (label : List ℕ) → IsUtf8 label → length (key_bytes label) ≤ 3 * length label
key_room label text = omega (arith, text_room (chars label), ap length (encodes-chars label text))

-- the key of an ASCII label is the label in lower case
pub ascii_key : (label : List ℕ) → IsAscii label → key_bytes label ≡ map to_ascii_lowercase label
ascii_key label ascii =
    let lower = map to_ascii_lowercase label in
    let is = IsAscii-map to_ascii_lowercase label lowercase_ascii ascii in
    ap encode_utf8_all (label_key-ascii label ascii ∙ sym (chars-IsAscii lower is)) ∙ encodes-chars lower (IsUtf8-from_ascii lower is)

-- two labels match exactly where their keys are the same bytes
pub match_keys : (one other : List ℕ) → (match_status one other ≡ ok) ↔ (key_bytes one ≡ key_bytes other)
match_keys one other = elim (cases_Bool (pointwise nat_eq (label_key one) (label_key other))) [
  | inl same ↦ rw same ((λ e. ap encode_utf8_all (same_text _ _ (sym same))), (λ e. refl))
  | inr apart ↦ rw apart ((λ e. cc), (λ e. absurd (other_text _ _ (sym apart) (encodes_same _ _ e))))
]
