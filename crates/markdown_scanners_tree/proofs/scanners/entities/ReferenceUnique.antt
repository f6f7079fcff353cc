-- A text begins with one character reference at most, and that has one meaning.
use Rattle.std.proofs.Common.{◌≡◌, ℕ, ◌<◌, ◌≤◌, Bool, true, not, List, [], ◌∷◌, ◌++◌, length, take, drop, refl, ap, ◌∙◌, sym, subst, arith, inl, inr}
use Rattle.std.proofs.Common.{Some, append_assoc, ◌==◌, ◌⊎◌, encode_utf8}
use Rattle.std.specs.List.{prefix_len, list_all}
use Rattle.std.specs.Char.{digit_value}
use Rattle.std.specs.Str.Parse.{AllDigits, digits_value}
use Rattle.std.proofs.lemmas.Bool.{false≢true, ne_eqb}
use Rattle.std.proofs.lemmas.List.{append_cancel_right, append-nil, take_at, length-append}
use Rattle.markdown_scanners_tree.specs.Ascii.{number_sign, semicolon}
use Rattle.markdown_scanners_tree.specs.Bytes.{is_alphanumeric}
use Rattle.markdown_scanners_tree.specs.scanners.entities.CharacterReference.{Lookup, referenced_char, marks_hexadecimal, IsReference}
use Rattle.markdown_scanners_tree.specs.scanners.entities.CharacterReference.{IsDecimalReference, IsHexadecimalReference, IsEntityReference}
use Rattle.markdown_scanners_tree.specs.scanners.entities.CharacterReference.{StartsWithReference}
use Rattle.markdown_scanners_tree.proofs.PrefixLemmas.{both_true, prefix_len-parts}
use Rattle.markdown_scanners_tree.proofs.scanners.entities.ReferenceLemmas.{decimal_at, hexadecimal_at, entity_at, entity_no_mark, decimal_no_letter}

-- no semicolon stands there
abbrev is_clear : ℕ → Bool
is_clear b = not (b == semicolon)

clear_digits : (radix : ℕ) (digits : List ℕ) → radix ≤ 36 → AllDigits radix digits → list_all is_clear digits ≡ true
clear_digits radix [] low made = refl
clear_digits radix (d ∷ digits) low made =
    let other : d ≡ semicolon → ⊥ = λ is. absurd (omega (arith, low, subst (λ b. digit_value b < radix) is made.0)) in
    rw (ne_eqb d semicolon other) (clear_digits radix digits low made.1)

clear_name : (name : List ℕ) → list_all is_alphanumeric name ≡ true → list_all is_clear name ≡ true
clear_name [] made = refl
clear_name (b ∷ name) made =
    let both = both_true (is_alphanumeric b) (list_all is_alphanumeric name) made in
    let other : b ≡ semicolon → ⊥ = λ is. false≢true (ap is_alphanumeric (sym is) ∙ both.0) in
    rw (ne_eqb b semicolon other) (clear_name name both.1)

-- A reference is a byte, bytes that are no semicolon, and a semicolon.
record IsEnclosed (source : List ℕ) : Type 0 where
  opener : ℕ
  body : List ℕ
  spelled : source ≡ opener ∷ (body ++ semicolon ∷ [])
  clear : list_all is_clear body ≡ true

enclosed : (known : Lookup) (source meaning : List ℕ) → IsReference known source meaning → IsEnclosed source
enclosed known source meaning is = elim is [
  | inl decimal ↦
      record { opener = decimal.opener; body = number_sign ∷ decimal.digits; spelled = decimal.spelled; clear = clear_digits 10 decimal.digits (omega arith) decimal.digits_only }
  | inr other ↦ elim other [
    | inl hexadecimal ↦ record {
      opener = hexadecimal.opener;
      body = number_sign ∷ hexadecimal.mark ∷ hexadecimal.digits;
      spelled = hexadecimal.spelled;
      clear =
          let other : hexadecimal.mark ≡ semicolon → ⊥ =
          λ is. false≢true (ap marks_hexadecimal (sym is) ∙ hexadecimal.marked) in
          rw (ne_eqb hexadecimal.mark semicolon other)
          (clear_digits 16 hexadecimal.digits (omega arith) hexadecimal.digits_only);
    }
    | inr entity ↦
        record { opener = entity.opener; body = entity.name; spelled = entity.spelled; clear = clear_name entity.name entity.alphanumerics_only }
  ]
]

-- its semicolon is the first after the first byte
enclosed_len : (source rest : List ℕ) (is : IsEnclosed source)
    → length is.body ≡ prefix_len is_clear (drop 1 (source ++ rest))
enclosed_len source rest is =
    let after : drop 1 (source ++ rest) ≡ is.body ++ semicolon ∷ rest = ap (λ s. drop 1 (s ++ rest)) is.spelled
    ∙ append_assoc is.body (semicolon ∷ []) rest in
    sym (ap (prefix_len is_clear) after ∙ prefix_len-parts is_clear is.body (semicolon ∷ rest) is.clear refl)

pub same_source : (known : Lookup) (source rest meaning source' rest' meaning' : List ℕ)
    → source ++ rest ≡ source' ++ rest'
    → IsReference known source meaning → IsReference known source' meaning' → source ≡ source'
same_source known source rest meaning source' rest' meaning' same is is' =
    let one = enclosed known source meaning is in
    let other = enclosed known source' meaning' is' in
    let body : length one.body ≡ length other.body =
    enclosed_len source rest one
    ∙ (ap (λ t. prefix_len is_clear (drop 1 t)) same ∙ sym (enclosed_len source' rest' other)) in
    let long : length source ≡ length source' =
    omega (
      arith,
      body,
      ap length one.spelled,
      ap length other.spelled,
      length-append one.body (semicolon ∷ []),
      length-append other.body (semicolon ∷ []),
    ) in
    sym (take_at source rest (length source) refl)
    ∙ (ap (take (length source)) same ∙ take_at source' rest' (length source) (sym long))

-- the same digits stand for the same number
same_digits : (radix : ℕ) (digits digits' meaning meaning' : List ℕ)
    → digits ++ semicolon ∷ [] ≡ digits' ++ semicolon ∷ []
    → meaning ≡ encode_utf8 (referenced_char (digits_value radix digits))
    → meaning' ≡ encode_utf8 (referenced_char (digits_value radix digits')) → meaning ≡ meaning'
same_digits radix digits digits' meaning meaning' same means means' =
    means ∙ (ap (λ ds. encode_utf8 (referenced_char (digits_value radix ds)))
    (append_cancel_right digits digits' (semicolon ∷ []) same) ∙ sym means')

-- decimal digits are no entity's name, and no hexadecimal mark
no_other : (known : Lookup) (source meaning meaning' : List ℕ) → IsDecimalReference source meaning
    → IsHexadecimalReference source meaning' ⊎ IsEntityReference known source meaning' → ⊥
no_other known source meaning meaning' decimal other =
    let whole : source ≡ source ++ [] = sym (append-nil source) in
    let at = decimal_at source source [] meaning whole decimal in
    elim other [
      | inl hexadecimal ↦
          decimal_no_letter source meaning at (hexadecimal_at source source [] meaning' whole hexadecimal).letter
      | inr entity ↦
          entity_no_mark known source meaning' (entity_at known source source [] meaning' whole entity) at.mark
    ]

no_entity : (known : Lookup) (source meaning meaning' : List ℕ) → IsHexadecimalReference source meaning
    → IsEntityReference known source meaning' → ⊥
no_entity known source meaning meaning' hexadecimal entity =
    let whole : source ≡ source ++ [] = sym (append-nil source) in
    entity_no_mark known source meaning' (entity_at known source source [] meaning' whole entity)
    (hexadecimal_at source source [] meaning whole hexadecimal).mark

pub same_meaning : (known : Lookup) (source meaning meaning' : List ℕ) → IsReference known source meaning
    → IsReference known source meaning' → meaning ≡ meaning'
same_meaning known source meaning meaning' (inl decimal) (inl decimal') =
    same_digits 10 decimal.digits decimal'.digits meaning meaning'
    (ap (drop 2) (sym decimal.spelled ∙ decimal'.spelled)) decimal.means decimal'.means
same_meaning known source meaning meaning' (inl decimal) (inr other) =
    absurd (no_other known source meaning meaning' decimal other)
same_meaning known source meaning meaning' (inr other) (inl decimal) =
    absurd (no_other known source meaning' meaning decimal other)
same_meaning known source meaning meaning' (inr (inl hexadecimal)) (inr (inl hexadecimal')) =
    same_digits 16 hexadecimal.digits hexadecimal'.digits meaning meaning'
    (ap (drop 3) (sym hexadecimal.spelled ∙ hexadecimal'.spelled)) hexadecimal.means hexadecimal'.means
same_meaning known source meaning meaning' (inr (inl hexadecimal)) (inr (inr entity)) =
    absurd (no_entity known source meaning meaning' hexadecimal entity)
same_meaning known source meaning meaning' (inr (inr entity)) (inr (inl hexadecimal)) =
    absurd (no_entity known source meaning' meaning hexadecimal entity)
same_meaning known source meaning meaning' (inr (inr entity)) (inr (inr entity')) =
    let name : entity.name ≡ entity'.name =
    append_cancel_right entity.name entity'.name (semicolon ∷ [])
    (ap (drop 1) (sym entity.spelled ∙ entity'.spelled)) in
    let both : Some meaning ≡ Some meaning' = sym entity.means ∙ (ap known name ∙ entity'.means) in
    cc

-- the reference that a text begins with: its length and its meaning
pub one_reference : (known : Lookup) (bytes : List ℕ) (reference other : ℕ × List ℕ)
    → StartsWithReference known bytes reference.0 reference.1 → StartsWithReference known bytes other.0 other.1
    → reference ≡ other
one_reference known bytes reference other is is' =
    let sources : is.source ≡ is'.source =
    same_source known is.source is.rest reference.1 is'.source is'.rest other.1 (sym is.splits ∙ is'.splits)
    is.is_reference is'.is_reference in
    let long : reference.0 ≡ other.0 = is.n_is_length ∙ (ap length sources ∙ sym is'.n_is_length) in
    let meanings : reference.1 ≡ other.1 =
    same_meaning known is'.source reference.1 other.1
    (subst (λ s. IsReference known s reference.1) sources is.is_reference) is'.is_reference in
    λ i. (long i, meanings i)
