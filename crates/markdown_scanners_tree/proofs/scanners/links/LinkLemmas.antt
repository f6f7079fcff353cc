-- Pipes of wikilinks, and absolute URIs in angle brackets.
use Rattle.std.proofs.Common.{◌≡◌, ℕ, suc, ◌+◌, ◌-◌, ◌<◌, ◌≤◌, true, ◌==◌, List, [], ◌∷◌, ◌++◌, length, take, drop, get_or}
use Rattle.std.proofs.Common.{refl, sym, ap, ◌∙◌, subst, arith, inl, inr, Option, Some, None, IfSome, append_assoc, one-add}
use Rattle.std.specs.Prelude.{position}
use Rattle.std.specs.List.{prefix_len}
use Rattle.std.proofs.lemmas.Bool.{lt-ltb, le-ltb, cases_lt, eqb-true}
use Rattle.std.proofs.lemmas.List.{length-append, take_rest, take_at, drop_at, get_or_at, get_or-drop, drop-drop, length-drop, length-take, get_or-take}
use Rattle.std.proofs.lemmas.List.Folds.{length-prefix_len}
use Rattle.std.specs.Str.{IsUtf8, IsCharBoundary}
use Rattle.std.proofs.lemmas.Str.{IsUtf8-drop, IsCharBoundary-start, IsCharBoundary-before_ascii, IsCharBoundary-after_ascii, IsCharBoundary-from_rest}
use Rattle.memchr.specs.Find.{IsFirstByte, is_byte}
use Rattle.markdown_scanners_tree.specs.Ascii.{colon, less_than_sign, greater_than_sign}
use Rattle.markdown_scanners_tree.specs.Bytes.{is_letter}
use Rattle.markdown_scanners_tree.specs.scanners.links.LinkDestination.{IsPointedFrom, IsBareFrom, IsLinkDestination}
use Rattle.markdown_scanners_tree.specs.scanners.links.Autolink.{is_scheme_byte, is_uri_byte, StartsWithScheme, IsUriAutolink}
use Rattle.markdown_scanners_tree.proofs.PrefixLemmas.{list_all-prefix, prefix_len-parts, split_at}
use Rattle.markdown_scanners_tree.proofs.ScanLemmas.{prefix_len-found, prefix_len-not_found}

-- a search by `memchr` answers the first position
pub position-searched : (byte : ℕ) (bytes : List ℕ) (found : Option ℕ) → IsFirstByte (is_byte byte) bytes found
    → position (λ b. b == byte) bytes ≡ found
position-searched byte bytes None none =
    rw (prefix_len-not_found byte bytes none, le-ltb (length bytes) (length bytes) (omega arith)) refl
position-searched byte bytes (Some k) first =
    rw (prefix_len-found byte bytes k first, lt-ltb k (length bytes) first.0.high) refl

-- the text from an offset on, as a slice of its bytes
pub slice_is_rest : (bytes text : List ℕ) (start : ℕ) → bytes ≡ text
    → take (length bytes - start) (drop start bytes) ≡ drop start text
slice_is_rest bytes text start same = take_rest bytes start ∙ ap (drop start) same

-- a letter, then the longest run of scheme bytes, and a colon
pub scheme_found : (bytes : List ℕ) (n : ℕ) → 0 < length bytes → is_letter (get_or bytes 0 0) ≡ true
    → n ≡ 1 + prefix_len is_scheme_byte (drop 1 bytes) → 2 ≤ n → n ≤ 32
    → n < length bytes → get_or bytes n 0 ≡ colon → StartsWithScheme bytes n
scheme_found [] n some letter count low high inside ends = absurd (omega (arith, some))
scheme_found (b ∷ bs) n some letter count low high inside ends =
    let p = prefix_len is_scheme_byte bs in
    let run : length (take p bs) ≡ p = length-prefix_len is_scheme_byte bs in
    let at : get_or bs p 0 ≡ colon = sym (ap (λ k. get_or (b ∷ bs) k 0) (count ∙ one-add p)) ∙ ends in
    record {
      scheme = b ∷ take p bs;
      rest = drop (suc p) bs;
      parts = ap (λ t. b ∷ t) (split_at bs p colon (omega (arith, inside, count)) at);
      is_scheme = record {
        first = b;
        others = take p bs;
        spelled = refl;
        letter = letter;
        scheme_bytes = list_all-prefix is_scheme_byte bs;
        at_least_one = omega (arith, run, count, low);
        at_most_thirty_one = omega (arith, run, count, high);
      };
      n_is_length = omega (arith, run, count);
    }

-- What a scheme at the front says of the bytes at their places.
pub record IsSchemeAt (bytes : List ℕ) (n : ℕ) : Type 0 where
  pub not_empty : 0 < length bytes
  pub letter : is_letter (get_or bytes 0 0) ≡ true
  pub count : n ≡ 1 + prefix_len is_scheme_byte (drop 1 bytes)
  pub at_least_two : 2 ≤ n
  pub at_most_thirty_two : n ≤ 32
  pub inside : n < length bytes
  pub ends : get_or bytes n 0 ≡ colon

pub scheme_at : (bytes : List ℕ) (n : ℕ) → StartsWithScheme bytes n → IsSchemeAt bytes n
scheme_at bytes n front =
    let scheme = front.is_scheme in
    let parts : bytes ≡ scheme.first ∷ (scheme.others ++ colon ∷ front.rest) = front.parts
    ∙ ap (λ s. s ++ colon ∷ front.rest) scheme.spelled in
    let run : prefix_len is_scheme_byte (drop 1 bytes) ≡ length scheme.others =
    ap (λ t. prefix_len is_scheme_byte (drop 1 t)) parts
    ∙ prefix_len-parts is_scheme_byte scheme.others (colon ∷ front.rest) scheme.scheme_bytes refl in
    let long : n ≡ 1 + length scheme.others = omega (arith, front.n_is_length, ap length scheme.spelled) in
    record {
      not_empty = omega (arith, ap length parts);
      letter = ap (λ t. is_letter (get_or t 0 0)) parts ∙ scheme.letter;
      count = omega (arith, long, run);
      at_least_two = omega (arith, long, scheme.at_least_one);
      at_most_thirty_two = omega (arith, long, scheme.at_most_thirty_one);
      inside = omega (arith, front.n_is_length, ap length front.parts, length-append front.scheme (colon ∷ front.rest));
      ends = ap (λ t. get_or t n 0) front.parts ∙ get_or_at front.scheme colon front.rest 0 n (sym front.n_is_length);
    }

-- the address goes on to the first byte that it can't hold
pub uri_found : (bytes : List ℕ) (n end : ℕ) → StartsWithScheme bytes n
    → end ≡ n + 1 + prefix_len is_uri_byte (drop (n + 1) bytes) → end < length bytes
    → get_or bytes end 0 ≡ greater_than_sign
    → IsUriAutolink bytes (take end bytes)
uri_found bytes n end front count inside close =
    let rest : drop (n + 1) bytes ≡ front.rest =
    ap (drop (n + 1)) (front.parts ∙ sym (append_assoc front.scheme (colon ∷ []) front.rest))
    ∙ drop_at (front.scheme ++ colon ∷ []) front.rest (n + 1)
    (omega (arith, front.n_is_length, length-append front.scheme (colon ∷ []))) in
    let a = prefix_len is_uri_byte front.rest in
    let run : length (take a front.rest) ≡ a = length-prefix_len is_uri_byte front.rest in
    let end_is : end ≡ n + 1 + a = count ∙ ap (λ t. n + 1 + prefix_len is_uri_byte t) rest in
    let here : get_or front.rest a 0 ≡ greater_than_sign = sym (ap (λ t. get_or t a 0) rest)
    ∙ (get_or-drop (n + 1) bytes a 0 ∙ (ap (λ k. get_or bytes k 0) (sym end_is) ∙ close)) in
    let tail : front.rest ≡ take a front.rest ++ greater_than_sign ∷ drop (suc a) front.rest =
    split_at front.rest a greater_than_sign
    (omega (
      arith,
      inside,
      end_is,
      front.n_is_length,
      ap length front.parts,
      length-append front.scheme (colon ∷ front.rest),
    )) here in
    let uri = front.scheme ++ colon ∷ take a front.rest in
    let whole : bytes ≡ uri ++ greater_than_sign ∷ drop (suc a) front.rest =
    front.parts ∙ (ap (λ t. front.scheme ++ colon ∷ t) tail
    ∙ sym (append_assoc front.scheme (colon ∷ take a front.rest) (greater_than_sign ∷ drop (suc a) front.rest))) in
    let taken : take end bytes ≡ uri = ap (take end) whole
    ∙ take_at uri (greater_than_sign ∷ drop (suc a) front.rest) end
    (omega (arith, end_is, front.n_is_length, run, length-append front.scheme (colon ∷ take a front.rest))) in
    record {
      scheme = front.scheme;
      address = take a front.rest;
      rest = drop (suc a) front.rest;
      parts = whole ∙ ap (λ u. u ++ greater_than_sign ∷ drop (suc a) front.rest) (sym taken);
      spelled = taken;
      is_scheme = front.is_scheme;
      uri_bytes = list_all-prefix is_uri_byte front.rest;
    }

-- a URI is the bytes up to its `>`
pub uri_taken : (bytes uri : List ℕ) → IsUriAutolink bytes uri → take (length uri) bytes ≡ uri
uri_taken bytes uri is = ap (take (length uri)) is.parts ∙ take_at uri (greater_than_sign ∷ is.rest) (length uri) refl

-- a URI begins with its scheme
pub uri_scheme : (bytes uri : List ℕ) → (is : IsUriAutolink bytes uri) → StartsWithScheme bytes (length is.scheme)
uri_scheme bytes uri is = record {
  scheme = is.scheme;
  rest = is.address ++ greater_than_sign ∷ is.rest;
  parts = is.parts ∙ (ap (λ u. u ++ greater_than_sign ∷ is.rest) is.spelled
      ∙ append_assoc is.scheme (colon ∷ is.address) (greater_than_sign ∷ is.rest));
  is_scheme = is.is_scheme;
  n_is_length = refl;
}

-- its address goes on to the first byte that it can't hold
uri_length : (bytes uri : List ℕ) (n end : ℕ) → IsUriAutolink bytes uri → StartsWithScheme bytes n
    → end ≡ n + 1 + prefix_len is_uri_byte (drop (n + 1) bytes) → end ≡ length uri
unfolding uri_scheme
uri_length bytes uri n end is front count =
    let first = uri_scheme bytes uri is in
    let same : n ≡ length is.scheme = (scheme_at bytes n front).count
    ∙ sym (scheme_at bytes (length is.scheme) first).count in
    let rest : drop (n + 1) bytes ≡ is.address ++ greater_than_sign ∷ is.rest =
    ap (drop (n + 1))
    (first.parts ∙ sym (append_assoc is.scheme (colon ∷ []) (is.address ++ greater_than_sign ∷ is.rest)))
    ∙ drop_at (is.scheme ++ colon ∷ []) (is.address ++ greater_than_sign ∷ is.rest) (n + 1)
    (omega (arith, same, length-append is.scheme (colon ∷ []))) in
    let run : prefix_len is_uri_byte (drop (n + 1) bytes) ≡ length is.address = ap (prefix_len is_uri_byte) rest
    ∙ prefix_len-parts is_uri_byte is.address (greater_than_sign ∷ is.rest) is.uri_bytes refl in
    omega (arith, count, run, same, ap length is.spelled, length-append is.scheme (colon ∷ is.address))

-- and its `>` stands there
pub uri_close : (bytes uri : List ℕ) (n end : ℕ) → IsUriAutolink bytes uri → StartsWithScheme bytes n
    → end ≡ n + 1 + prefix_len is_uri_byte (drop (n + 1) bytes)
    → (end < length bytes) × (get_or bytes end 0 ≡ greater_than_sign)
uri_close bytes uri n end is front count =
    let long = uri_length bytes uri n end is front count in (
      omega (arith, long, ap length is.parts, length-append uri (greater_than_sign ∷ is.rest)),
      ap (λ t. get_or t end 0) is.parts ∙ get_or_at uri greater_than_sign is.rest 0 end (sym long),
    )

-- a text begins with one URI at most
pub one_uri : (bytes uri uri' : List ℕ) → IsUriAutolink bytes uri → IsUriAutolink bytes uri' → uri ≡ uri'
one_uri bytes uri uri' is is' =
    let front = uri_scheme bytes uri is in
    let long = uri_length bytes uri _ _ is front refl in
    let long' = uri_length bytes uri' _ _ is' front refl in
    sym (uri_taken bytes uri is) ∙ (ap (λ k. take k bytes) (sym long ∙ long') ∙ uri_taken bytes uri' is')

-- a destination is pointed where the text begins with `<`, else bare
pub no_pointed : (most : ℕ) (text : List ℕ) → text ≡ less_than_sign ∷ drop 1 text
    → ((n : ℕ) → ¬ IsPointedFrom (drop 1 text) n)
    → (taken : ℕ) (destination : List ℕ) → ¬ IsLinkDestination most text taken destination
no_pointed most text opens none taken destination (inl pointed) =
    none pointed.n (subst (λ t. IsPointedFrom t pointed.n) (sym (ap (drop 1) pointed.opens)) pointed.pointed)
no_pointed most text opens none taken destination (inr bare) = bare.unpointed (drop 1 text) opens

pub no_bare : (most : ℕ) (text : List ℕ) → ((after : List ℕ) → text ≡ less_than_sign ∷ after → ⊥)
    → ((n : ℕ) → ¬ IsBareFrom most 0 text n) → (taken : ℕ) (destination : List ℕ)
    → ¬ IsLinkDestination most text taken destination
no_bare most text unpointed none taken destination (inl pointed) = unpointed pointed.after pointed.opens
no_bare most text unpointed none taken destination (inr bare) = none taken bare.bare

pub opened_by : (text : List ℕ) → get_or text 0 0 ≡ less_than_sign → text ≡ less_than_sign ∷ drop 1 text
opened_by [] first = absurd (omega (arith, first))
opened_by (b ∷ text) first = ap (λ x. x ∷ text) first

-- a text may be cut on both sides of an ASCII byte
pub cut_before : (bytes : List ℕ) (n offset : ℕ) → n ≡ offset → n < length bytes → get_or bytes n 0 < 128
    → IsCharBoundary bytes offset
cut_before bytes n offset at inside ascii =
    subst (IsCharBoundary bytes) at (IsCharBoundary-before_ascii bytes n inside ascii)

pub cut_after : (bytes : List ℕ) (n offset : ℕ) → n + 1 ≡ offset → IsUtf8 bytes → n < length bytes
    → get_or bytes n 0 < 128 → IsCharBoundary bytes offset
cut_after bytes n offset at utf8 inside ascii =
    subst (IsCharBoundary bytes) at (IsCharBoundary-after_ascii bytes n utf8 inside ascii)

-- and at an offset that is its end or before one
pub cut_at_end : (bytes : List ℕ) (n : ℕ) → n ≤ length bytes → (n < length bytes → get_or bytes n 0 < 128)
    → IsCharBoundary bytes n
cut_at_end bytes n within ascii = (within, λ inside high. absurd (omega (arith, ascii inside, high)))

-- a byte of what stands after the first byte
pub byte_after : (bytes : List ℕ) (n byte : ℕ) → n < length (take (length bytes - 1) (drop 1 bytes))
    → get_or (take (length bytes - 1) (drop 1 bytes)) n 0 ≡ byte
    → (1 + n < length bytes) × (get_or bytes (1 + n) 0 ≡ byte)
byte_after bytes n byte inside here =
    let rest : take (length bytes - 1) (drop 1 bytes) ≡ drop 1 bytes = take_rest bytes 1 in (
      omega (arith, inside, ap length rest, length-drop 1 bytes),
      sym (get_or-drop 1 bytes n 0) ∙ (ap (λ t. get_or t n 0) (sym rest) ∙ here),
    )

-- What a search for an ASCII byte among the first bytes tells of the one that it finds.
pub record IsFoundByte (byte : ℕ) (bytes : List ℕ) (found : Option ℕ) : Type 0 where
  pub within : IfSome found (λ n. n < length bytes)
  pub cut : IfSome found (λ n. get_or bytes n 0 ≡ byte)
  pub before : IfSome found (λ n. IsUtf8 bytes → IsCharBoundary bytes n)
  pub after : IfSome found (λ n. IsUtf8 bytes → IsCharBoundary bytes (n + 1))

pub searched_first : (byte k : ℕ) (bytes front : List ℕ) (found : Option ℕ) → front ≡ take k bytes
    → IsFirstByte (is_byte byte) front found → byte < 128 → IsFoundByte byte bytes found
searched_first byte k bytes front None first none ascii =
    record { within = tt; cut = tt; before = tt; after = tt }
searched_first byte k bytes front (Some n) first (at, here) ascii =
    let few : n < k = omega (arith, at.high, ap length first, length-take k bytes) in
    let inside : n < length bytes = omega (arith, at.high, ap length first, length-take k bytes) in
    let is : get_or bytes n 0 ≡ byte = sym (get_or-take k bytes n 0 few)
    ∙ (ap (λ t. get_or t n 0) (sym first) ∙ eqb-true (get_or front n 0) byte here) in
    record {
      within = inside;
      cut = is;
      before = λ utf8. cut_before bytes n n refl inside (omega (arith, is, ascii));
      after = λ utf8. cut_after bytes n (n + 1) refl utf8 inside (omega (arith, is, ascii));
    }

-- a part of what stands from an offset of a text on, as a part of the text
pub part_of_rest : (bytes text part : List ℕ) (start from to : ℕ) → bytes ≡ drop start text
    → part ≡ take (start + to - (start + from)) (drop (start + from) text)
    → part ≡ take (to - from) (drop from bytes)
part_of_rest bytes text part start from to same is =
    is ∙ (ap (λ k. take k (drop (start + from) text)) (omega arith)
    ∙ ap (take (to - from)) (sym (ap (drop from) same ∙ drop-drop from start text)))

pub destination_of_rest : (most : ℕ) (bytes text : List ℕ) (taken : ℕ) (raw part : List ℕ) → bytes ≡ text → part ≡ raw
    → IsLinkDestination most bytes taken raw → IsLinkDestination most text taken part
destination_of_rest most bytes text taken raw part same is found =
    subst (λ t. IsLinkDestination most t taken part) same
    (subst (IsLinkDestination most bytes taken) (sym is) found)

-- an offset in it between two characters, as an offset in the text
pub offset_of_rest : (bytes text : List ℕ) (start n : ℕ) → bytes ≡ drop start text → IsUtf8 text
    → (0 < start → IsCharBoundary text start) → (IsUtf8 bytes → IsCharBoundary bytes n)
    → IsCharBoundary text (start + n)
offset_of_rest bytes text start n same utf8 at_start at =
    let begins : IsCharBoundary text start = elim (cases_lt 0 start) [
      | inl some ↦ at_start some
      | inr none ↦ subst (IsCharBoundary text) (omega (arith, none)) (IsCharBoundary-start text utf8)
    ] in
    let rest : IsUtf8 bytes = subst IsUtf8 (sym same) (IsUtf8-drop text start utf8 begins) in
    IsCharBoundary-from_rest text start n begins.0 (subst (λ t. IsCharBoundary t n) same (at rest))
