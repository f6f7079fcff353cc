-- What a character reference at the front says of the bytes at their places, and the other way
-- round.
use Rattle.std.proofs.Common.{◌≡◌, ℕ, suc, ◌+◌, ◌<◌, ◌≤◌, ◌⊎◌, true, List, [], ◌∷◌, ◌++◌, length, get_or, take, drop, refl}
use Rattle.std.proofs.Common.{ap, ◌∙◌, sym, subst, inl, inr, arith, Option, Some, None, encode_utf8, eqb, append_assoc, add-one}
use Rattle.std.specs.Option.{is_some}
use Rattle.std.specs.List.{prefix_len, list_all}
use Rattle.std.specs.Prelude.{IsTrue}
use Rattle.std.specs.Char.{digit_value}
use Rattle.std.specs.Str.Parse.{AllDigits, digits_value}
use Rattle.std.proofs.lemmas.List.{length-take-le, length-append, get_or_at, take_at, get_or-drop}
use Rattle.markdown_scanners_tree.proofs.PrefixLemmas.{both_true, list_all-prefix, prefix_len-parts, split_at}
use Rattle.std.proofs.lemmas.Bool.{false≢true, or_cases, eqb-true}
use Rattle.markdown_scanners_tree.specs.Ascii.{number_sign, semicolon, capital_x, small_x}
use Rattle.markdown_scanners_tree.specs.Bytes.{is_alphanumeric}
use Rattle.markdown_scanners_tree.specs.scanners.entities.private.Digits.{StartsWithNumber}
use Rattle.markdown_scanners_tree.specs.scanners.entities.private.Name.{IsNameAnswer}
use Rattle.markdown_scanners_tree.specs.scanners.entities.CharacterReference.{Lookup, referenced_char, marks_hexadecimal, StartsWithReference}
use Rattle.markdown_scanners_tree.specs.scanners.entities.CharacterReference.{IsDecimalReference, IsHexadecimalReference, IsEntityReference}

-- a number at the front begins with a digit
number_first : (radix limit : ℕ) (bytes : List ℕ) (n number : ℕ) → StartsWithNumber radix limit bytes n number
    → digit_value (get_or bytes 0 0) < radix
number_first radix limit bytes n number is =
    first radix is.digits is.rest bytes is.splits is.digits_only is.at_least_one where
      first : (radix : ℕ) (digits rest bytes : List ℕ) → bytes ≡ digits ++ semicolon ∷ rest → AllDigits radix digits
          → 1 ≤ length digits → digit_value (get_or bytes 0 0) < radix
      first radix [] rest bytes e a one = absurd (omega (arith, one))
      first radix (d ∷ ds) rest bytes e a one = rw e a.0

-- the three kinds, by offsets
pub record IsDecimalAt (bytes meaning : List ℕ) : Type 0 where
  pub at_least_two : 2 ≤ length bytes
  pub mark : get_or bytes 1 0 ≡ number_sign
  pub number : ℕ
  pub count : ℕ
  pub starts : StartsWithNumber 10 7 (drop 2 bytes) count number
  pub means : meaning ≡ encode_utf8 (referenced_char number)

pub record IsHexadecimalAt (bytes meaning : List ℕ) : Type 0 where
  pub at_least_three : 3 ≤ length bytes
  pub mark : get_or bytes 1 0 ≡ number_sign
  pub letter : marks_hexadecimal (get_or bytes 2 0) ≡ true
  pub number : ℕ
  pub count : ℕ
  pub starts : StartsWithNumber 16 6 (drop 3 bytes) count number
  pub means : meaning ≡ encode_utf8 (referenced_char number)

pub record IsEntityAt (known : Lookup) (bytes meaning : List ℕ) : Type 0 where
  pub name : List ℕ
  pub rest : List ℕ
  pub splits : drop 1 bytes ≡ name ++ semicolon ∷ rest
  pub alphanumerics_only : IsTrue (list_all is_alphanumeric name)
  pub means : known name ≡ Some meaning

pub decimal_at : (bytes source rest meaning : List ℕ) → bytes ≡ source ++ rest → IsDecimalReference source meaning
    → IsDecimalAt bytes meaning
decimal_at bytes source rest meaning e is =
    let whole : bytes ≡ is.opener ∷ number_sign ∷ (is.digits ++ semicolon ∷ rest) =
    e ∙ (ap (λ s. s ++ rest) is.spelled
    ∙ ap (λ t. is.opener ∷ number_sign ∷ t) (append_assoc is.digits (semicolon ∷ []) rest)) in
    record {
      at_least_two = rw whole (omega arith);
      mark = rw whole refl;
      number = digits_value 10 is.digits;
      count = length is.digits;
      starts = record {
        digits = is.digits;
        rest = rest;
        splits = ap (drop 2) whole;
        digits_only = is.digits_only;
        at_least_one = is.at_least_one;
        at_most_limit = is.at_most_seven;
        n_is_length = refl;
        means = refl;
      };
      means = is.means;
    }

pub hexadecimal_at : (bytes source rest meaning : List ℕ) → bytes ≡ source ++ rest
    → IsHexadecimalReference source meaning → IsHexadecimalAt bytes meaning
hexadecimal_at bytes source rest meaning e is =
    let whole : bytes ≡ is.opener ∷ number_sign ∷ is.mark ∷ (is.digits ++ semicolon ∷ rest) =
    e ∙ (ap (λ s. s ++ rest) is.spelled
    ∙ ap (λ t. is.opener ∷ number_sign ∷ is.mark ∷ t) (append_assoc is.digits (semicolon ∷ []) rest)) in
    record {
      at_least_three = rw whole (omega arith);
      mark = rw whole refl;
      letter = rw whole is.marked;
      number = digits_value 16 is.digits;
      count = length is.digits;
      starts = record {
        digits = is.digits;
        rest = rest;
        splits = ap (drop 3) whole;
        digits_only = is.digits_only;
        at_least_one = is.at_least_one;
        at_most_limit = is.at_most_six;
        n_is_length = refl;
        means = refl;
      };
      means = is.means;
    }

pub entity_at : (known : Lookup) (bytes source rest meaning : List ℕ) → bytes ≡ source ++ rest
    → IsEntityReference known source meaning → IsEntityAt known bytes meaning
entity_at known bytes source rest meaning e is =
    let whole : bytes ≡ is.opener ∷ (is.name ++ semicolon ∷ rest) =
    e ∙ (ap (λ s. s ++ rest) is.spelled ∙ ap (λ t. is.opener ∷ t) (append_assoc is.name (semicolon ∷ []) rest)) in
    record {
      name = is.name;
      rest = rest;
      splits = ap (drop 1) whole;
      alphanumerics_only = is.alphanumerics_only;
      means = is.means;
    }

-- an entity's name does not begin with `#`
pub entity_no_mark : (known : Lookup) (bytes meaning : List ℕ) → IsEntityAt known bytes meaning
    → get_or bytes 1 0 ≡ number_sign → ⊥
entity_no_mark known bytes meaning is mark =
    go is.name is.rest (drop 1 bytes) is.splits is.alphanumerics_only (get_or-drop 1 bytes 0 0 ∙ mark) where
      go : (name rest tail : List ℕ) → tail ≡ name ++ semicolon ∷ rest → list_all is_alphanumeric name ≡ true
          → get_or tail 0 0 ≡ number_sign → ⊥
      go [] rest tail e a m = absurd (omega (arith, sym (ap (λ t. get_or t 0 0) e) ∙ m))
      go (b ∷ name) rest tail e a m =
          let at : b ≡ number_sign = sym (ap (λ t. get_or t 0 0) e) ∙ m in
          false≢true (ap is_alphanumeric (sym at) ∙ (both_true (is_alphanumeric b) (list_all is_alphanumeric name) a).0)

-- a decimal reference has no `x` after its `#`
pub decimal_no_letter : (bytes meaning : List ℕ) → IsDecimalAt bytes meaning
    → marks_hexadecimal (get_or bytes 2 0) ≡ true → ⊥
decimal_no_letter bytes meaning is letter =
    let digit : digit_value (get_or (drop 2 bytes) 0 0) < 10 =
    number_first 10 7 (drop 2 bytes) is.count is.number is.starts in
    let at : digit_value (get_or bytes 2 0) < 10 = subst (λ b. digit_value b < 10) (get_or-drop 2 bytes 0 0) digit in
    elim (or_cases (eqb (get_or bytes 2 0) small_x) (eqb (get_or bytes 2 0) capital_x) letter) [
      | inl small ↦
          absurd (omega (arith, subst (λ b. digit_value b < 10) (eqb-true (get_or bytes 2 0) small_x small) at))
      | inr large ↦
          absurd (omega (arith, subst (λ b. digit_value b < 10) (eqb-true (get_or bytes 2 0) capital_x large) at))
    ]

-- what is at the offsets is a reference at the front
pub decimal_found : (known : Lookup) (bytes : List ℕ) (n number : ℕ) → 2 ≤ length bytes → get_or bytes 1 0 ≡ number_sign
    → StartsWithNumber 10 7 (drop 2 bytes) n number
    → StartsWithReference known bytes (n + 3) (encode_utf8 (referenced_char number))
decimal_found known [] n number long mark is = absurd (omega (arith, long))
decimal_found known (a ∷ []) n number long mark is = absurd (omega (arith, long))
decimal_found known (a ∷ b ∷ cs) n number long mark is = record {
  source = a ∷ number_sign ∷ is.digits ++ semicolon ∷ [];
  rest = is.rest;
  splits = ap (λ x. a ∷ x ∷ cs) mark
      ∙ ap (λ t. a ∷ number_sign ∷ t) (is.splits ∙ sym (append_assoc is.digits (semicolon ∷ []) is.rest));
  n_is_length = omega (arith, is.n_is_length, length-append is.digits (semicolon ∷ []));
  is_reference =
      inl (record {
        opener = a;
        digits = is.digits;
        spelled = refl;
        digits_only = is.digits_only;
        at_least_one = is.at_least_one;
        at_most_seven = is.at_most_limit;
        means = ap (λ m. encode_utf8 (referenced_char m)) is.means;
      });
}

pub hexadecimal_found : (known : Lookup) (bytes : List ℕ) (n number : ℕ) → 3 ≤ length bytes
    → get_or bytes 1 0 ≡ number_sign
    → marks_hexadecimal (get_or bytes 2 0) ≡ true → StartsWithNumber 16 6 (drop 3 bytes) n number
    → StartsWithReference known bytes (n + 4) (encode_utf8 (referenced_char number))
hexadecimal_found known [] n number long mark letter is = absurd (omega (arith, long))
hexadecimal_found known (a ∷ []) n number long mark letter is = absurd (omega (arith, long))
hexadecimal_found known (a ∷ b ∷ []) n number long mark letter is = absurd (omega (arith, long))
hexadecimal_found known (a ∷ b ∷ x ∷ cs) n number long mark letter is = record {
  source = a ∷ number_sign ∷ x ∷ is.digits ++ semicolon ∷ [];
  rest = is.rest;
  splits = ap (λ y. a ∷ y ∷ x ∷ cs) mark
      ∙ ap (λ t. a ∷ number_sign ∷ x ∷ t) (is.splits ∙ sym (append_assoc is.digits (semicolon ∷ []) is.rest));
  n_is_length = omega (arith, is.n_is_length, length-append is.digits (semicolon ∷ []));
  is_reference =
      inr (inl (record {
        opener = a;
        mark = x;
        digits = is.digits;
        spelled = refl;
        marked = letter;
        digits_only = is.digits_only;
        at_least_one = is.at_least_one;
        at_most_six = is.at_most_limit;
        means = ap (λ m. encode_utf8 (referenced_char m)) is.means;
      }));
}

pub entity_found : (known : Lookup) (bytes : List ℕ) (n : ℕ) (meaning : List ℕ)
    → n ≡ prefix_len is_alphanumeric (drop 1 bytes) → n + 1 < length bytes
    → get_or bytes (n + 1) 0 ≡ semicolon → known (take n (drop 1 bytes)) ≡ Some meaning
    → StartsWithReference known bytes (n + 2) meaning
entity_found known [] n meaning is inside ends means = absurd (omega (arith, inside))
entity_found known (a ∷ bs) n meaning is inside ends means =
    let ends' : get_or bs n 0 ≡ semicolon = sym (ap (λ k. get_or (a ∷ bs) k 0) (add-one n)) ∙ ends in
    let split : bs ≡ take n bs ++ semicolon ∷ drop (suc n) bs = split_at bs n semicolon (omega (arith, inside)) ends' in
    let long : length (take n bs) ≡ n = length-take-le n bs (omega (arith, inside)) in
    record {
      source = a ∷ take n bs ++ semicolon ∷ [];
      rest = drop (suc n) bs;
      splits = ap (λ t. a ∷ t) (split ∙ sym (append_assoc (take n bs) (semicolon ∷ []) (drop (suc n) bs)));
      n_is_length = omega (arith, long, length-append (take n bs) (semicolon ∷ []));
      is_reference =
          inr (inr
          (record { opener = a; name = take n bs; spelled = refl; alphanumerics_only = rw is (list_all-prefix is_alphanumeric bs); means = means }));
    }

-- what an entity at the front says of the n letters and digits, and of the byte after them
pub record IsNameEnded (known : Lookup) (bytes : List ℕ) (n : ℕ) (meaning : List ℕ) : Type 0 where
  pub inside : n + 1 < length bytes
  pub ends : get_or bytes (n + 1) 0 ≡ semicolon
  pub means : known (take n (drop 1 bytes)) ≡ Some meaning

pub entity_ended : (known : Lookup) (bytes : List ℕ) (n : ℕ) (meaning : List ℕ) → 0 < length bytes
    → n ≡ prefix_len is_alphanumeric (drop 1 bytes)
    → IsEntityAt known bytes meaning → IsNameEnded known bytes n meaning
entity_ended known [] n meaning some same is = absurd (omega (arith, some))
entity_ended known (a ∷ bs) n meaning some same is =
    let count : n ≡ length is.name = same
    ∙ (ap (prefix_len is_alphanumeric) is.splits
    ∙ prefix_len-parts is_alphanumeric is.name (semicolon ∷ is.rest) is.alphanumerics_only refl) in
    record {
      inside = omega (arith, count, ap length is.splits, length-append is.name (semicolon ∷ is.rest));
      ends = ap (λ k. get_or (a ∷ bs) k 0) (add-one n)
          ∙ (ap (λ k. get_or bs k 0) count
          ∙ (ap (λ t. get_or t (length is.name) 0) is.splits
          ∙ get_or_at is.name semicolon is.rest 0 (length is.name) refl));
      means = ap known (ap (λ k. take k bs) count
          ∙ (ap (take (length is.name)) is.splits ∙ take_at is.name (semicolon ∷ is.rest) (length is.name) refl))
          ∙ is.means;
    }

-- a reference at the front is of one of the three kinds at its offsets
kinds_at : (known : Lookup) (bytes : List ℕ) (n : ℕ) (meaning : List ℕ) → StartsWithReference known bytes n meaning
    → IsDecimalAt bytes meaning ⊎ (IsHexadecimalAt bytes meaning ⊎ IsEntityAt known bytes meaning)
kinds_at known bytes n meaning is = elim is.is_reference [
  | inl decimal ↦ inl (decimal_at bytes is.source is.rest meaning is.splits decimal)
  | inr other ↦ elim other [
    | inl hexadecimal ↦ inr (inl (hexadecimal_at bytes is.source is.rest meaning is.splits hexadecimal))
    | inr entity ↦ inr (inr (entity_at known bytes is.source is.rest meaning is.splits entity))
  ]
]

-- without `#` only an entity's name can stand
pub only_entity : (known : Lookup) (bytes : List ℕ) (n : ℕ) (meaning : List ℕ)
    → (1 < length bytes → get_or bytes 1 0 ≡ number_sign → ⊥)
    → StartsWithReference known bytes n meaning → IsEntityAt known bytes meaning
only_entity known bytes n meaning unmarked is = elim (kinds_at known bytes n meaning is) [
  | inl decimal ↦ absurd (unmarked (omega (arith, decimal.at_least_two)) decimal.mark)
  | inr other ↦ elim other [
    | inl hexadecimal ↦ absurd (unmarked (omega (arith, hexadecimal.at_least_three)) hexadecimal.mark)
    | inr entity ↦ entity
  ]
]

-- after `#x` only a hexadecimal number can stand
pub no_hexadecimal : (known : Lookup) (bytes : List ℕ) (n : ℕ) (meaning : List ℕ) → get_or bytes 1 0 ≡ number_sign
    → marks_hexadecimal (get_or bytes 2 0) ≡ true → ((k number : ℕ) → StartsWithNumber 16 6 (drop 3 bytes) k number → ⊥)
    → StartsWithReference known bytes n meaning → ⊥
no_hexadecimal known bytes n meaning mark letter none is = elim (kinds_at known bytes n meaning is) [
  | inl decimal ↦ decimal_no_letter bytes meaning decimal letter
  | inr other ↦ elim other [
    | inl hexadecimal ↦ none hexadecimal.count hexadecimal.number hexadecimal.starts
    | inr entity ↦ entity_no_mark known bytes meaning entity mark
  ]
]

-- after `#` without an `x` only a decimal number can stand
pub no_decimal : (known : Lookup) (bytes : List ℕ) (n : ℕ) (meaning : List ℕ) → get_or bytes 1 0 ≡ number_sign
    → (2 < length bytes → marks_hexadecimal (get_or bytes 2 0) ≡ true → ⊥)
    → ((k number : ℕ) → StartsWithNumber 10 7 (drop 2 bytes) k number → ⊥)
    → StartsWithReference known bytes n meaning → ⊥
no_decimal known bytes n meaning mark letter none is = elim (kinds_at known bytes n meaning is) [
  | inl decimal ↦ none decimal.count decimal.number decimal.starts
  | inr other ↦ elim other [
    | inl hexadecimal ↦ letter (omega (arith, hexadecimal.at_least_three)) hexadecimal.letter
    | inr entity ↦ entity_no_mark known bytes meaning entity mark
  ]
]

-- what a lookup says of the name between the first byte and a semicolon
pub looked_up : (known : Lookup) (bytes : List ℕ) (n : ℕ) (answer : Option (List ℕ)) → 0 < length bytes
    → (1 < length bytes → get_or bytes 1 0 ≡ number_sign → ⊥) → n ≡ prefix_len is_alphanumeric (drop 1 bytes)
    → n + 1 < length bytes → get_or bytes (n + 1) 0 ≡ semicolon → answer ≡ known (take n (drop 1 bytes))
    → IsNameAnswer known bytes n answer
looked_up known bytes n None some unmarked name inside ends is = λ k meaning starts.
    let ended = entity_ended known bytes n meaning some name (only_entity known bytes k meaning unmarked starts) in
    false≢true (ap is_some (is ∙ ended.means))
looked_up known bytes n (Some meaning) some unmarked name inside ends is =
    entity_found known bytes n meaning name inside ends (sym is)
