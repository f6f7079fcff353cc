-- An address as it is written is a safe value: read back as a browser reads it, it has the scheme that it had, or none.
use Rattle.std.proofs.Common.{ℕ, ◌+◌, ◌-◌, ◌<◌, ◌≡◌, ◌/◌, ◌%◌, true, false, List, [], ◌∷◌, ◌++◌, Option, None, refl, ap, ◌∙◌, arith, inl, inr, ◌⊎◌}
use Rattle.std.proofs.Common.{subst}
use Rattle.std.specs.Prelude.{◌==◌, nat_lt, if◌then◌else◌}
use Rattle.std.specs.List.{flat_map}
use Rattle.std.specs.Option.{option_map, option_map_or}
use Rattle.std.specs.Char.{to_ascii_lowercase}
use Rattle.std.specs.Fmt.{digit_glyph}
use Rattle.std.proofs.lemmas.Bool.{cases_Bool}
use Rattle.std.proofs.lemmas.Bool.Decides.{nat_tests}
use Rattle.markdown_scanners_tree.specs.Ascii.{ampersand, apostrophe, greater_than_sign, less_than_sign, quotation_mark, tab, line_feed}
use Rattle.markdown_scanners_tree.specs.Ascii.{carriage_return, colon}
use Rattle.markdown_scanners_tree.specs.Bytes.{is_letter}
use Rattle.markdown_scanners_tree.specs.scanners.links.Autolink.{is_scheme_byte}
use Rattle.markdown_html.specs.Addresses.{is_allowed_address, is_allowed_scheme, scheme_of, scheme_state, scheme_start_state, is_control_or_space}
use Rattle.markdown_html.specs.Addresses.{is_tab_or_newline, without_leading, without_breaks}
use Rattle.markdown_html.specs.Escapes.{stands_in_address, percent_encoded, address_byte, written_address}
use Rattle.markdown_html.specs.SafeHtml.{is_text_byte, is_text, read_after, is_address}
use Rattle.markdown_html.proofs.SafeLemmas.{equal, other_byte}

-- how a byte of an address is read back
abbrev pub read_byte : ℕ → List ℕ
read_byte b =
    if stands_in_address b then b ∷ []
    else if b == ampersand then ampersand ∷ []
    else if b == apostrophe then apostrophe ∷ []
    else percent_encoded b

stands_differs : (b c : ℕ) → stands_in_address b ≡ true → stands_in_address c ≡ false → (b == c) ≡ false
stands_differs b c stands falls = elim (cases_Bool (b == c)) [
  | inl same ↦ absurd (let here : stands_in_address c ≡ true = subst (λ x. stands_in_address x ≡ true) (equal b c same) stands in cc)
  | inr other ↦ other
]

-- what holds of ten digits and of letters holds of a hexadecimal digit
glyph_is : (P : ℕ → Type 0) → ((d : ℕ) → d < 10 → P (48 + d)) → ((d : ℕ) → P (65 + d)) → (d : ℕ) → P (digit_glyph true d)
glyph_is P digits letters d = elim (cases_Bool (nat_lt d 10)) [
  | inl small ↦ rw small (digits d (grind (arith, nat_tests)))
  | inr large ↦ rw large (let later : 55 + d ≡ 65 + (d - 10) = grind (arith, nat_tests) in rw later (letters (d - 10)))
]

glyph_plain : (d : ℕ) → (digit_glyph true d == ampersand) ≡ false
glyph_plain = glyph_is (λ b. (b == ampersand) ≡ false) (λ d small. grind (arith, nat_tests)) (λ d. grind (arith, nat_tests))

glyph_is_text : (rest : List ℕ) (d : ℕ) → is_text_byte (digit_glyph true d) rest ≡ true
glyph_is_text rest = glyph_is (λ b. is_text_byte b rest ≡ true)
    (λ d small. other_byte (48 + d) rest (grind (arith, nat_tests)) (grind (arith, nat_tests)) (grind (arith, nat_tests)) (grind (arith, nat_tests)))
    (λ d. other_byte (65 + d) rest (grind (arith, nat_tests)) (grind (arith, nat_tests)) (grind (arith, nat_tests)) (grind (arith, nat_tests)))

glyph_kept : (d : ℕ) → is_tab_or_newline (digit_glyph true d) ≡ false
glyph_kept = glyph_is (λ b. is_tab_or_newline b ≡ false) (λ d small. grind (arith, nat_tests)) (λ d. grind (arith, nat_tests))

percent_read : (b : ℕ) (rest : List ℕ) → read_after 0 (percent_encoded b ++ rest) ≡ percent_encoded b ++ read_after 0 rest
percent_read b rest = rw (glyph_plain (b / 16), glyph_plain (b % 16)) refl

byte_read : (b : ℕ) (rest : List ℕ) → read_after 0 (address_byte b ++ rest) ≡ read_byte b ++ read_after 0 rest
byte_read b rest = elim (cases_Bool (stands_in_address b)) [
  | inl stands ↦ rw (stands, stands_differs b ampersand stands refl) refl
  | inr falls ↦ elim (cases_Bool (b == ampersand)) [
    | inl amp ↦ rw (falls, amp) refl
    | inr not_amp ↦ elim (cases_Bool (b == apostrophe)) [
      | inl quote ↦ rw (falls, not_amp, quote) refl
      | inr other ↦ rw (falls, not_amp, other) (percent_read b rest)
    ]
  ]
]

-- an address as it is read back
pub address_read : (address : List ℕ) → read_after 0 (written_address address) ≡ flat_map read_byte address
address_read [] = refl
address_read (b ∷ address) = byte_read b (written_address address) ∙ ap (λ rest. read_byte b ++ rest) (address_read address)

percent_is_text : (b : ℕ) (rest : List ℕ) → is_text rest ≡ true → is_text (percent_encoded b ++ rest) ≡ true
percent_is_text b rest text = rw (glyph_is_text (digit_glyph true (b % 16) ∷ rest) (b / 16), glyph_is_text rest (b % 16)) text

stands_is_text : (b : ℕ) (rest : List ℕ) → stands_in_address b ≡ true → is_text_byte b rest ≡ true
stands_is_text b rest stands =
    other_byte b rest (stands_differs b less_than_sign stands refl) (stands_differs b greater_than_sign stands refl)
    (stands_differs b ampersand stands refl) (stands_differs b quotation_mark stands refl)

byte_is_text : (b : ℕ) (rest : List ℕ) → is_text rest ≡ true → is_text (address_byte b ++ rest) ≡ true
byte_is_text b rest text = elim (cases_Bool (stands_in_address b)) [
  | inl stands ↦ rw (stands, stands_is_text b rest stands) text
  | inr falls ↦ elim (cases_Bool (b == ampersand)) [
    | inl amp ↦ rw (falls, amp) text
    | inr not_amp ↦ elim (cases_Bool (b == apostrophe)) [
      | inl quote ↦ rw (falls, not_amp, quote) text
      | inr other ↦ rw (falls, not_amp, other) (percent_is_text b rest text)
    ]
  ]
]

pub address_is_text : (address : List ℕ) → is_text (written_address address) ≡ true
address_is_text [] = refl
address_is_text (b ∷ address) = byte_is_text b (written_address address) (address_is_text address)

-- ---- the scheme

stands_visible : (b : ℕ) → stands_in_address b ≡ true → is_control_or_space b ≡ false
stands_visible b stands = grind (arith, nat_tests)

stands_kept : (b : ℕ) → stands_in_address b ≡ true → is_tab_or_newline b ≡ false
stands_kept b stands = rw (stands_differs b tab stands refl, stands_differs b line_feed stands refl, stands_differs b carriage_return stands refl)

-- one of the four forms in which a byte is read back
data Form (b : ℕ) : List ℕ → Type 0 where
  itself : stands_in_address b ≡ true → Form b (b ∷ [])
  and : stands_in_address b ≡ false → Form b (ampersand ∷ [])
  quote : stands_in_address b ≡ false → Form b (apostrophe ∷ [])
  number : stands_in_address b ≡ false → Form b (percent_encoded b)

form_of : (b : ℕ) → Form b (read_byte b)
form_of b = elim (cases_Bool (stands_in_address b)) [
  | inl stands ↦ rw stands (itself stands)
  | inr falls ↦ elim (cases_Bool (b == ampersand)) [
    | inl amp ↦ rw (falls, amp) (and falls)
    | inr not_amp ↦ elim (cases_Bool (b == apostrophe)) [
      | inl quoted ↦ rw (falls, not_amp, quoted) (quote falls)
      | inr other ↦ rw (falls, not_amp, other) (number falls)
    ]
  ]
]

leading_form : (b : ℕ) (read rest : List ℕ) → Form b read → without_leading (read ++ rest) ≡ read ++ rest
leading_form b read rest (itself stands) = rw (stands_visible b stands) refl
leading_form b read rest (and falls) = refl
leading_form b read rest (quote falls) = refl
leading_form b read rest (number falls) = refl

kept_form : (b : ℕ) (read rest : List ℕ) → Form b read → without_breaks (read ++ rest) ≡ read ++ without_breaks rest
kept_form b read rest (itself stands) = rw (stands_kept b stands) refl
kept_form b read rest (and falls) = refl
kept_form b read rest (quote falls) = refl
kept_form b read rest (number falls) = rw (glyph_kept (b / 16), glyph_kept (b % 16)) refl

all_kept : (address : List ℕ) → without_breaks (flat_map read_byte address) ≡ flat_map read_byte address
all_kept [] = refl
all_kept (b ∷ address) =
    kept_form b (read_byte b) (flat_map read_byte address) (form_of b) ∙ ap (λ rest. read_byte b ++ rest) (all_kept address)

as_it_is : (address : List ℕ) → scheme_of (flat_map read_byte address) ≡ scheme_start_state (flat_map read_byte address)
as_it_is [] = refl
as_it_is (b ∷ address) =
    ap (λ url. scheme_start_state (without_breaks url)) (leading_form b (read_byte b) (flat_map read_byte address) (form_of b))
    ∙ ap scheme_start_state (all_kept (b ∷ address))

-- none, or this one
abbrev IsNoneOr : Option (List ℕ) → Option (List ℕ) → Type 0
IsNoneOr scheme found = (scheme ≡ None) ⊎ (scheme ≡ found)

more_of : (b : ℕ) (scheme found : Option (List ℕ)) → IsNoneOr scheme found
    → IsNoneOr (option_map (λ rest. to_ascii_lowercase b ∷ rest) scheme) (option_map (λ rest. to_ascii_lowercase b ∷ rest) found)
more_of b scheme found (inl none) = inl (ap (option_map (λ rest. to_ascii_lowercase b ∷ rest)) none)
more_of b scheme found (inr same) = inr (ap (option_map (λ rest. to_ascii_lowercase b ∷ rest)) same)

state_form : (b : ℕ) (read rest bytes : List ℕ) → Form b read → IsNoneOr (scheme_state rest) (scheme_state (without_breaks bytes))
    → IsNoneOr (scheme_state (read ++ rest)) (scheme_state (without_breaks (b ∷ bytes)))
state_form b read rest bytes (itself stands) before = elim (cases_Bool (b == colon)) [
  | inl here ↦ rw (stands_kept b stands, here) (inr refl)
  | inr other ↦ elim (cases_Bool (is_scheme_byte b)) [
    | inl inside ↦ rw (stands_kept b stands, other, inside) (more_of b (scheme_state rest) (scheme_state (without_breaks bytes)) before)
    | inr outside ↦ rw (stands_kept b stands, other, outside) (inl refl)
  ]
]
state_form b read rest bytes (and falls) before = inl refl
state_form b read rest bytes (quote falls) before = inl refl
state_form b read rest bytes (number falls) before = inl refl

state_read : (address : List ℕ) → IsNoneOr (scheme_state (flat_map read_byte address)) (scheme_state (without_breaks address))
state_read [] = inl refl
state_read (b ∷ address) = state_form b (read_byte b) (flat_map read_byte address) address (form_of b) (state_read address)

start_form : (b : ℕ) (read rest bytes : List ℕ) → Form b read → IsNoneOr (scheme_state rest) (scheme_state (without_breaks bytes))
    → IsNoneOr (scheme_start_state (read ++ rest)) (scheme_of (b ∷ bytes))
start_form b read rest bytes (itself stands) before = elim (cases_Bool (is_letter b)) [
  | inl letter ↦ rw (stands_visible b stands, stands_kept b stands, letter) (more_of b (scheme_state rest) (scheme_state (without_breaks bytes)) before)
  | inr other ↦ rw (stands_visible b stands, stands_kept b stands, other) (inl refl)
]
start_form b read rest bytes (and falls) before = inl refl
start_form b read rest bytes (quote falls) before = inl refl
start_form b read rest bytes (number falls) before = inl refl

-- The scheme of an address that is read back is none, or that of the address.
pub scheme_read : (address : List ℕ) → IsNoneOr (scheme_of (flat_map read_byte address)) (scheme_of address)
scheme_read [] = inl refl
scheme_read (b ∷ address) =
    rw (as_it_is (b ∷ address)) (start_form b (read_byte b) (flat_map read_byte address) address (form_of b) (state_read address))

allowed_or_none : (schemes : List (List ℕ)) (scheme found : Option (List ℕ)) → IsNoneOr scheme found
    → option_map_or (is_allowed_scheme schemes) found true ≡ true → option_map_or (is_allowed_scheme schemes) scheme true ≡ true
allowed_or_none schemes scheme found (inl none) allowed = ap (λ it. option_map_or (is_allowed_scheme schemes) it true) none
allowed_or_none schemes scheme found (inr same) allowed = ap (λ it. option_map_or (is_allowed_scheme schemes) it true) same ∙ allowed

-- An allowed address is written as an address of the grammar.
pub address_is_safe : (schemes : List (List ℕ)) (address : List ℕ) → is_allowed_address schemes address ≡ true
    → is_address schemes (written_address address) ≡ true
address_is_safe schemes address allowed =
    rw (address_is_text address, address_read address)
    (allowed_or_none schemes (scheme_of (flat_map read_byte address)) (scheme_of address) (scheme_read address) allowed)
