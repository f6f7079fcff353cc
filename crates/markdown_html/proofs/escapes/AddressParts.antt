-- The parts of an address: bytes that are written as they are, and then bytes that are not.
use Rattle.std.proofs.Common.{◌≡◌, ℕ, zero, suc, ◌+◌, ◌<◌, Bool, true, false, not, List, []}
use Rattle.std.proofs.Common.{◌∷◌, ◌++◌, length, take, drop, get_or, refl, sym, ap, subst, ◌∙◌, arith, inl, inr, append_assoc, one-add}
use Rattle.std.specs.Prelude.{slice_range}
use Rattle.std.specs.List.{prefix_len}
use Rattle.std.specs.Str.{IsUtf8, IsCharBoundary}
use Rattle.std.proofs.lemmas.Bool.{cases_Bool}
use Rattle.std.proofs.lemmas.Bool.Decides.{nat_tests}
use Rattle.std.proofs.lemmas.Grind.{flat_map-append}
use Rattle.std.proofs.lemmas.List.{length-drop, take-append-drop}
use Rattle.std.proofs.lemmas.List.Sums.{prefix_len_passes, prefix_len-le-length}
use Rattle.std.proofs.lemmas.Str.{IsCharBoundary-after_ascii, IsCharBoundary-start}
use Rattle.markdown_html.proofs.RunLemmas.{cut_after}
use Rattle.markdown_html.specs.Escapes.{address_byte, stands_in_address, written_address}

abbrev is_encoded : ℕ → Bool
is_encoded b = not (stands_in_address b)

-- What is written as it is, is ASCII.
standing_low : (b : ℕ) → stands_in_address b ≡ true → b < 128
standing_low b stands = grind (arith, nat_tests)

encoded_stop : (b : ℕ) → is_encoded b ≡ false → b < 128
encoded_stop b stop = elim (cases_Bool (stands_in_address b)) [
  | inl stands ↦ standing_low b stands
  | inr encoded ↦ (let is = rw encoded at stop in cc)
]

-- An address may be cut after either part.
pub standing_cut : (bytes : List ℕ) (n : ℕ) → IsUtf8 bytes → n ≡ prefix_len stands_in_address bytes → IsCharBoundary bytes n
standing_cut bytes zero utf8 run = IsCharBoundary-start bytes utf8
standing_cut bytes (suc n) utf8 run =
    let low = standing_low (get_or bytes n 0) (prefix_len_passes stands_in_address bytes n 0 (omega (arith, run))) in
    subst (IsCharBoundary bytes) (omega arith)
    (IsCharBoundary-after_ascii bytes n utf8 (omega (arith, run, prefix_len-le-length stands_in_address bytes)) low)

pub encoded_cut : (bytes : List ℕ) (n : ℕ) → n ≡ prefix_len is_encoded bytes → IsCharBoundary bytes n
encoded_cut bytes n run = cut_after is_encoded encoded_stop bytes n run

-- The first stays as it is.
written-standing : (bytes : List ℕ)
    → written_address (take (prefix_len stands_in_address bytes) bytes) ≡ take (prefix_len stands_in_address bytes) bytes
written-standing [] = refl
written-standing (b ∷ bs) = elim (cases_Bool (stands_in_address b)) [
  | inl stands ↦ rw (stands, one-add, stands) (ap (λ t. b ∷ t) (written-standing bs))
  | inr encoded ↦ rw encoded refl
]

written-cut : (n : ℕ) (bytes : List ℕ) → written_address (take n bytes) ++ written_address (drop n bytes) ≡ written_address bytes
written-cut n bytes = sym (flat_map-append address_byte (take n bytes) (drop n bytes)) ∙ ap written_address (take-append-drop n bytes)

written-front : (bytes : List ℕ) → written_address bytes
    ≡ take (prefix_len stands_in_address bytes) bytes ++ written_address (drop (prefix_len stands_in_address bytes) bytes)
written-front bytes =
    let n = prefix_len stands_in_address bytes in
    sym (written-cut n bytes) ∙ ap (λ t. t ++ written_address (drop n bytes)) (written-standing bytes)

-- what is appended of an address, and what is left of it
pub part_pushed : (address front rest part last before middle after : List ℕ) (n k : ℕ) → n ≡ prefix_len stands_in_address address
    → front ≡ slice_range address 0 n → rest ≡ drop n address → part ≡ slice_range rest 0 k → last ≡ drop k rest
    → middle ≡ before ++ front → after ≡ middle ++ written_address part
    → after ++ written_address last ≡ before ++ written_address address
part_pushed address front rest part last before middle after n k run is later part_is last_is pushed written =
    let whole : written_address address ≡ take n address ++ written_address (drop n address) =
    subst (λ m. written_address address ≡ take m address ++ written_address (drop m address)) (sym run) (written-front address) in
    let taken : front ≡ take n address = is ∙ ap (λ m. take m address) (omega arith) in
    let parted : part ≡ take k rest = part_is ∙ ap (λ m. take m rest) (omega arith) in
    let both : written_address part ++ written_address last ≡ written_address rest =
    ap (λ p. written_address p ++ written_address last) parted ∙ ap (λ l. written_address (take k rest) ++ written_address l) last_is
    ∙ written-cut k rest in
    ap (λ t. t ++ written_address last) (written ∙ ap (λ t. t ++ written_address part) pushed)
    ∙ append_assoc (before ++ front) (written_address part) (written_address last)
    ∙ ap (λ t. (before ++ front) ++ t) (both ∙ ap written_address later)
    ∙ append_assoc before front (written_address (drop n address))
    ∙ ap (λ t. before ++ t) (ap (λ t. t ++ written_address (drop n address)) taken ∙ sym whole)

-- One of the two is not empty.
some_part : (bytes : List ℕ) → 0 < length bytes
    → 0 < prefix_len stands_in_address bytes + prefix_len is_encoded (drop (prefix_len stands_in_address bytes) bytes)
some_part [] some = absurd (omega (arith, some))
some_part (b ∷ bs) some = elim (cases_Bool (stands_in_address b)) [
  | inl stands ↦ rw stands (omega arith)
  | inr encoded ↦ rw (encoded, encoded) (omega arith)
]

pub part_shorter : (address rest last : List ℕ) (n k : ℕ) → 0 < length address → n ≡ prefix_len stands_in_address address
    → rest ≡ drop n address → k ≡ prefix_len is_encoded rest → last ≡ drop k rest → length last < length address
part_shorter address rest last n k some run later encoded last_is =
    let found : k ≡ prefix_len is_encoded (drop (prefix_len stands_in_address address) address) =
    encoded ∙ ap (prefix_len is_encoded) (later ∙ ap (λ m. drop m address) run) in
    omega (
      arith,
      some_part address some,
      run,
      found,
      prefix_len-le-length stands_in_address address,
      ap length last_is,
      length-drop k rest,
      ap length later,
      length-drop n address,
      some,
    )
