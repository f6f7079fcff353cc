-- Texts with a character in the place of each U+0000.
use Rattle.std.proofs.Common.{◌≡◌, ◌≢◌, ℕ, zero, suc, ◌+◌, ◌<◌, ◌==◌, false, List, [], ◌∷◌, ◌++◌, length, take, drop, get_or}
use Rattle.std.proofs.Common.{refl, sym, ap, subst, ◌∙◌, arith, inl, inr}
use Rattle.std.specs.Prelude.{Option, None, Some}
use Rattle.std.specs.Option.{is_some}
use Rattle.std.specs.Str.{NoCharPasses}
use Rattle.std.specs.Char.{len_utf8}
use Rattle.std.specs.Str.Pattern.{FindsChar, HasCharAt}
use Rattle.std.specs.Str.Replace.{ReplacesMatches}
use Rattle.std.proofs.lemmas.List.{append-nil, take-append-drop}
use Rattle.std.proofs.lemmas.Str.{encode_ascii, len_utf8_ascii}
use Rattle.std.proofs.lemmas.Str.Pattern.{NoCharPasses-char}
use Rattle.memchr.specs.Find.{IsFirstByte, is_byte}
use Rattle.markdown_events.specs.InsecureCharacters.{replace_nul}

abbrev HasNoNull : List ℕ → Type 0
HasNoNull text = (i : ℕ) → i < length text → get_or text i 0 ≢ 0

no_null : (text : List ℕ) → NoCharPasses (λ d. d == 0) text → HasNoNull text
no_null text none i inside = NoCharPasses-char 0 text i none (omega arith) inside

-- A front without U+0000 stays.
front_stays : (front later : List ℕ) → HasNoNull front → replace_nul (front ++ later) ≡ front ++ replace_nul later
front_stays [] later none = refl
front_stays (zero ∷ front) later none = absurd (none 0 (omega arith) refl)
front_stays (suc b ∷ front) later none =
    ap (λ t. suc b ∷ t) (front_stays front later (λ i inside. none (suc i) (omega (arith, inside))))

stays : (text : List ℕ) → HasNoNull text → text ≡ replace_nul text
stays text none = sym (sym (ap replace_nul (append-nil text)) ∙ front_stays text [] none ∙ append-nil text)

pub stays_without : (text : List ℕ) (found : Option ℕ) → IsFirstByte (is_byte 0) text found → is_some found ≡ false → text ≡ replace_nul text
stays_without text None none is_none = stays text (λ i inside null. none i (omega arith) inside (rw null refl))
stays_without text (Some i) first is_none = cc

-- the bytes of U+FFFD
abbrev pub replacement : List ℕ
replacement = 239 ∷ 191 ∷ 189 ∷ []

not_empty : (a b : ℕ) → b ≡ a + len_utf8 0 → a ≢ b
not_empty a b ends same = omega (arith, ends, same, len_utf8_ascii 0 (omega arith))

cut_at : (text : List ℕ) (a b : ℕ) → HasCharAt 0 text a b → text ≡ take a text ++ (0 ∷ drop b text)
cut_at text a b found = sym (take-append-drop a text) ∙ ap (λ t. take a text ++ t) (found.split ∙ ap (λ t. t ++ drop b text) (encode_ascii 0 (omega arith)))

-- What `replace` makes of a text is the text with replacements.
pub replaced : (n : ℕ) (text out : List ℕ) → ReplacesMatches FindsChar (λ c d. d ≡ c) replacement n 0 text out → out ≡ replace_nul text
replaced zero text out made = made.1 ∙ stays text (no_null text made.0)
replaced (suc n) text out made = elim made.6 [
  | inl later ↦
      made.7
      ∙ ap (λ t. take made.0 text ++ (replacement ++ t)) (replaced n (drop made.1 text) made.3
      (subst (λ q. ReplacesMatches FindsChar (λ c d. d ≡ c) replacement n q (drop made.1 text) made.3) made.5 later.1))
      ∙ sym (ap replace_nul (cut_at text made.0 made.1 made.4.1)
      ∙ front_stays (take made.0 text) (0 ∷ drop made.1 text) (no_null (take made.0 text) made.4.0))
  | inr empty ↦ absurd (not_empty made.0 made.1 made.4.1.ends empty.0)
]
