-- An email address is cut where its bytes end.
use Rattle.std.proofs.Common.{◌≡◌, ℕ, suc, ◌+◌, ◌<◌, ◌-◌, true, not, ◌&&◌, ◌==◌, nat_le, slice_index, List}
use Rattle.std.proofs.Common.{[], ◌∷◌, ◌++◌, length, take, drop, get_or, refl, sym, ap, ◌∙◌, subst, arith, append_assoc}
use Rattle.std.proofs.Math.Seq.{take-add, drop-cons}
use Rattle.std.specs.List.{list_all, prefix_len, slice_split, join_with_byte}
use Rattle.std.proofs.lemmas.Bool.{and_parts}
use Rattle.std.proofs.lemmas.List.{take_at, drop_at, get_or_at, length-append, drop-drop, get_or-drop, length-take-le}
use Rattle.std.proofs.lemmas.List.Folds.{list_all-append}
use Rattle.std.proofs.lemmas.List.Splits.{join_with_byte-slice_split}
use Rattle.markdown_scanners_tree.specs.Ascii.{hyphen, full_stop, greater_than_sign}
use Rattle.markdown_scanners_tree.proofs.PrefixLemmas.{list_all-prefix, list_all-implies, prefix_len-parts, split_at}
use Rattle.markdown_inlines.specs.Emails.{IsEmailAutolink, at_sign, is_domain, is_domain_byte, is_label, is_label_byte, is_local_byte}

label_is_of_domain : (b : ℕ) → is_label_byte b ≡ true → is_domain_byte b ≡ true
label_is_of_domain b is = rw is refl

label_bytes : (label : List ℕ) → is_label label ≡ true → list_all is_domain_byte label ≡ true
label_bytes label is =
    let ends = nat_le 1 (length label) && nat_le (length label) 63 && not (slice_index label 0 == hyphen)
    && not (slice_index label (length label - 1) == hyphen) in
    list_all-implies is_label_byte is_domain_byte label_is_of_domain label (and_parts ends (list_all is_label_byte label) is).1

joined_bytes : (labels : List (List ℕ)) → list_all is_label labels ≡ true → list_all is_domain_byte (join_with_byte full_stop labels) ≡ true
joined_bytes [] all = refl
joined_bytes (label ∷ []) all = label_bytes label (and_parts (is_label label) true all).0
joined_bytes (label ∷ next ∷ labels) all =
    let both = and_parts (is_label label) (list_all is_label (next ∷ labels)) all in
    rw (
      list_all-append is_domain_byte label (full_stop ∷ join_with_byte full_stop (next ∷ labels)),
      label_bytes label both.0,
      joined_bytes (next ∷ labels) both.1,
    ) refl

domain_bytes : (domain : List ℕ) → is_domain domain ≡ true → list_all is_domain_byte domain ≡ true
domain_bytes domain is =
    subst (λ bytes. list_all is_domain_byte bytes ≡ true) (join_with_byte-slice_split full_stop domain)
    (joined_bytes (slice_split (λ b. b == full_stop) domain) is)

-- where an address at the front of a text has its `@` and its `>`
pub record IsAddressAt (text : List ℕ) (local domain : ℕ) : Type 0 where
  pub local_is : local ≡ prefix_len is_local_byte text
  pub domain_is : domain ≡ prefix_len is_domain_byte (drop (local + 1) text)
  pub some : 0 < local
  pub inside : local + 1 + domain < length text
  pub at : get_or text local 0 ≡ at_sign
  pub closed : get_or text (local + 1 + domain) 0 ≡ greater_than_sign
  pub is_domain : is_domain (take domain (drop (local + 1) text)) ≡ true

address_in_parts : (first : ℕ) (local domain rest : List ℕ) → list_all is_local_byte (first ∷ local) ≡ true → is_domain domain ≡ true
    → IsAddressAt ((first ∷ local) ++ at_sign ∷ (domain ++ greater_than_sign ∷ rest)) (length (first ∷ local)) (length domain)
address_in_parts first local domain rest all is =
    let start = first ∷ local in
    let end = greater_than_sign ∷ rest in
    let text = start ++ at_sign ∷ (domain ++ end) in
    let after : drop (length start + 1) text ≡ domain ++ end = sym (drop-drop 1 (length start) text)
    ∙ ap (drop 1) (drop_at start (at_sign ∷ (domain ++ end)) (length start) refl) in
    record {
      local_is = sym (prefix_len-parts is_local_byte start (at_sign ∷ (domain ++ end)) all refl);
      domain_is = rw after (sym (prefix_len-parts is_domain_byte domain end (domain_bytes domain is) refl));
      some = omega arith;
      inside = omega (arith, length-append start (at_sign ∷ (domain ++ end)), length-append domain end);
      at = get_or_at start at_sign (domain ++ end) 0 (length start) refl;
      closed = sym (get_or-drop (length start + 1) text (length domain) 0) ∙ ap (λ t. get_or t (length domain) 0) after
          ∙ get_or_at domain greater_than_sign rest 0 (length domain) refl;
      is_domain = rw (after, take_at domain end (length domain) refl) is;
    }

address_from : (local domain rest text address : List ℕ) → text ≡ address ++ greater_than_sign ∷ rest → address ≡ local ++ at_sign ∷ domain
    → (local ≡ [] → ⊥) → list_all is_local_byte local ≡ true → is_domain domain ≡ true
    → (m : ℕ) × (n : ℕ) × IsAddressAt text m n × (address ≡ take (m + 1 + n) text)
address_from [] domain rest text address parts spelled some all is = absurd (some refl)
address_from (first ∷ others) domain rest text address parts spelled some all is =
    let local = first ∷ others in
    let whole : text ≡ local ++ at_sign ∷ (domain ++ greater_than_sign ∷ rest) =
    parts ∙ ap (λ a. a ++ greater_than_sign ∷ rest) spelled ∙ append_assoc local (at_sign ∷ domain) (greater_than_sign ∷ rest) in
    let size : length address ≡ length local + 1 + length domain = ap length spelled ∙ length-append local (at_sign ∷ domain) ∙ omega arith in (
      length local,
      length domain,
      subst (λ t. IsAddressAt t (length local) (length domain)) (sym whole) (address_in_parts first others domain rest all is),
      sym (take_at address (greater_than_sign ∷ rest) (length local + 1 + length domain) size) ∙ ap (take (length local + 1 + length domain)) (sym parts),
    )

-- an address at the front has its offsets there
pub address_at : (text address : List ℕ) → IsEmailAutolink text address → (m : ℕ) × (n : ℕ) × IsAddressAt text m n × (address ≡ take (m + 1 + n) text)
address_at text address e = address_from e.local e.domain e.rest text address e.parts e.spelled e.not_empty e.local_bytes e.is_domain

-- and where these are, one stands there
pub address_found : (text : List ℕ) (m n : ℕ) → IsAddressAt text m n → IsEmailAutolink text (take (m + 1 + n) text)
address_found text m n a =
    let before : m < length text = omega (arith, a.inside) in
    let front : take (m + 1) text ≡ take m text ++ at_sign ∷ [] =
    take-add m 1 text ∙ ap (λ t. take m text ++ take 1 t) (drop-cons text m 0 before ∙ ap (λ b. b ∷ drop (suc m) text) a.at) in
    record {
      local = take m text;
      domain = take n (drop (m + 1) text);
      rest = drop (suc (m + 1 + n)) text;
      parts = split_at text (m + 1 + n) greater_than_sign a.inside a.closed;
      spelled = take-add (m + 1) n text ∙ ap (λ t. t ++ take n (drop (m + 1) text)) front
          ∙ append_assoc (take m text) (at_sign ∷ []) (take n (drop (m + 1) text));
      not_empty = λ none.
          (let size = length-take-le m text (omega (arith, before)) in let same = ap length none in absurd (omega (arith, size, same, a.some)));
      local_bytes = rw a.local_is (list_all-prefix is_local_byte text);
      is_domain = a.is_domain;
    }

-- a text begins with one address
pub one_email : (text a b : List ℕ) → IsEmailAutolink text a → IsEmailAutolink text b → a ≡ b
one_email text a b e f =
    let here = address_at text a e in
    let there = address_at text b f in
    let m : here.0 ≡ there.0 = here.2.local_is ∙ sym there.2.local_is in
    let n : here.1 ≡ there.1 = here.2.domain_is ∙ ap (λ k. prefix_len is_domain_byte (drop (k + 1) text)) m ∙ sym there.2.domain_is in
    here.3 ∙ ap (λ k. take (k + 1 + here.1) text) m ∙ ap (λ k. take (there.0 + 1 + k) text) n ∙ sym there.3
