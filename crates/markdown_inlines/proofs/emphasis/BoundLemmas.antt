-- Openers that are known to fit no closer of a kind.
use Rattle.std.proofs.Common.{ℕ, suc, zero, Bool, true, false, not, List, [], ◌∷◌, ◌++◌, ◌+◌}
use Rattle.std.proofs.Common.{◌*◌, ◌-◌, ◌%◌, ◌/◌, ◌<◌, ◌≤◌, ◌≡◌, ◌⊎◌, inl, inr, ◌==◌, ◌&&◌}
use Rattle.std.proofs.Common.{◌||◌, min, nat_le}
use Rattle.std.proofs.Common.{length, take, drop, reverse, get_or, slice_set, Option, Some, None, refl, sym, ap, ◌∙◌, subst, arith, if◌then◌else◌}
use Rattle.std.proofs.lemmas.Bool.{cases_eq, cases_lt, lt-leb}
use Rattle.std.proofs.lemmas.List.{reverse-append, length-set, length-append, get_or-set_same, get_or-set_other, take-append-le}
use Rattle.std.proofs.Math.Seq.{take-suc, take-add, take-length}
use Rattle.std.proofs.Math.Nat.{mod-add-div', add-mul-mod_self_right}
use Rattle.markdown_scanners_tree.specs.Ascii.{asterisk, tilde, underscore}
use Rattle.markdown_inlines.specs.declared.delimiter_runs.DelimiterRun.{DelimiterRun}
use Rattle.markdown_inlines.specs.declared.emphasis.Delimiters.{Delimiters}
use Rattle.markdown_inlines.specs.Emphasis.{are_pair, breaks_three, fits, nearest}
use Rattle.markdown_inlines.specs.EmphasisBounds.{IsOfDelimiters, ArePassed, kind_of}

-- the innermost of the first openers
pub last_first : (openers : List Delimiters) (j : ℕ) (d : Delimiters) → j < length openers
    → reverse (take (suc j) openers) ≡ get_or openers j d ∷ reverse (take j openers)
last_first openers j d within = ap reverse (take-suc openers j d within) ∙ reverse-append (take j openers) (get_or openers j d ∷ [])

skipped : (b : Bool) (found : Delimiters × List Delimiters) (rest : Option (Delimiters × List Delimiters)) → (if b then Some found else rest) ≡ None
    → rest ≡ None
skipped true found rest none = cc
skipped false found rest none = none

-- none of the outer openers fits where none of all does
none_outer : (closer : DelimiterRun) (inner outer : List Delimiters) → nearest closer (inner ++ outer) ≡ None → nearest closer outer ≡ None
none_outer closer [] outer none = none
none_outer closer (o ∷ inner) outer none =
    none_outer closer inner outer (skipped (fits closer o.run) (o, inner ++ outer) (nearest closer (inner ++ outer)) none)

none_fewer : (closer : DelimiterRun) (openers : List Delimiters) (p q : ℕ) → q ≤ p → nearest closer (reverse (take p openers)) ≡ None
    → nearest closer (reverse (take q openers)) ≡ None
none_fewer closer openers p q few none =
    none_outer closer (reverse (take (p - q) (drop q openers))) (reverse (take q openers)) (subst (λ os. nearest closer os ≡ None) parts none)
  where
    parts : reverse (take p openers) ≡ reverse (take (p - q) (drop q openers)) ++ reverse (take q openers)
    parts =
        let sum : p ≡ q + (p - q) = omega (arith, few) in
        ap (λ n. reverse (take n openers)) sum ∙ ap reverse (take-add q (p - q) openers)
        ∙ reverse-append (take q openers) (take (p - q) (drop q openers))

take_first : (n p : ℕ) (openers : List Delimiters) → n ≤ p → take n (take p openers) ≡ take n openers
take_first zero p openers few = refl
take_first (suc n) zero openers few = absurd (omega (arith, few))
take_first (suc n) (suc p) [] few = refl
take_first (suc n) (suc p) (o ∷ openers) few = ap (λ os. o ∷ os) (take_first n p openers (omega (arith, few)))

-- closers of a kind fit the same openers
split_kind : (r s : ℕ) (u v x y : Bool)
    → 4 * r + (if u then 2 else 0) + (if v then 1 else 0) ≡ 4 * s + (if x then 2 else 0) + (if y then 1 else 0)
    → (r ≡ s) × (u ≡ x) × (v ≡ y)
split_kind r s true true true true same = (omega (arith, same), refl, refl)
split_kind r s true true true false same = absurd (omega (arith, same))
split_kind r s true true false true same = absurd (omega (arith, same))
split_kind r s true true false false same = absurd (omega (arith, same))
split_kind r s true false true true same = absurd (omega (arith, same))
split_kind r s true false true false same = (omega (arith, same), refl, refl)
split_kind r s true false false true same = absurd (omega (arith, same))
split_kind r s true false false false same = absurd (omega (arith, same))
split_kind r s false true true true same = absurd (omega (arith, same))
split_kind r s false true true false same = absurd (omega (arith, same))
split_kind r s false true false true same = (omega (arith, same), refl, refl)
split_kind r s false true false false same = absurd (omega (arith, same))
split_kind r s false false true true same = absurd (omega (arith, same))
split_kind r s false false true false same = absurd (omega (arith, same))
split_kind r s false false false true same = absurd (omega (arith, same))
split_kind r s false false false false same = (omega (arith, same), refl, refl)

same_byte : (b c : ℕ) → (b ≡ asterisk) ⊎ (b ≡ underscore) → (c ≡ asterisk) ⊎ (c ≡ underscore) → (b == underscore) ≡ (c == underscore) → b ≡ c
same_byte b c (inl p) (inl q) same = p ∙ sym q
same_byte b c (inr p) (inr q) same = p ∙ sym q
same_byte b c (inl p) (inr q) same =
    let bad : false ≡ true = sym (ap (λ x. x == underscore) p) ∙ same ∙ ap (λ x. x == underscore) q in cc
same_byte b c (inr p) (inl q) same =
    let bad : true ≡ false = sym (ap (λ x. x == underscore) p) ∙ same ∙ ap (λ x. x == underscore) q in cc

sum_mod : (o c : ℕ) → (o + c) % 3 ≡ (o + c % 3) % 3
sum_mod o c =
    let sum : o + (c % 3 + c / 3 * 3) ≡ (o + c % 3) + c / 3 * 3 = omega arith in
    ap (λ n. (o + n) % 3) (sym (mod-add-div' c 3)) ∙ ap (λ n. n % 3) sum ∙ add-mul-mod_self_right (o + c % 3) (c / 3) 3

-- the kinds of closers of the two delimiters, and those of tildes
abbrev low_kind : DelimiterRun → ℕ
low_kind run = 4 * (run.count % 3) + (if run.byte == underscore then 2 else 0) + (if run.can_open then 1 else 0)

kind_of_low : (run : DelimiterRun) → (run.byte ≡ asterisk) ⊎ (run.byte ≡ underscore) → kind_of run ≡ low_kind run
kind_of_low run (inl is) = ap (λ b. if b == tilde then 12 + min run.count 3 else low_kind run) is
kind_of_low run (inr is) = ap (λ b. if b == tilde then 12 + min run.count 3 else low_kind run) is

kind_of_tilde : (run : DelimiterRun) → run.byte ≡ tilde → kind_of run ≡ 12 + min run.count 3
kind_of_tilde run is = ap (λ b. if b == tilde then 12 + min run.count 3 else low_kind run) is

low_is_low : (run : DelimiterRun) → low_kind run < 12
low_is_low run = by (run.byte == underscore) run.can_open
  where
    by : (u v : Bool) → 4 * (run.count % 3) + (if u then 2 else 0) + (if v then 1 else 0) < 12
    by true true = omega arith
    by true false = omega arith
    by false true = omega arith
    by false false = omega arith

abbrev fits_by : DelimiterRun → ℕ → Bool → ℕ → ℕ → Bool
fits_by o byte both sum count = o.byte == byte && not ((o.can_close || both) && sum == 0 && not (o.count % 3 == 0 && count == 0))

-- of the two delimiters the rule of three decides
fits_low : (c o : DelimiterRun) → (c.byte ≡ asterisk) ⊎ (c.byte ≡ underscore)
    → fits c o ≡ fits_by o c.byte c.can_open ((o.count + c.count) % 3) (c.count % 3)
fits_low c o (inl is) = ap (λ b. o.byte == c.byte && (if b == tilde then are_pair o c else not (breaks_three o c))) is
fits_low c o (inr is) = ap (λ b. o.byte == c.byte && (if b == tilde then are_pair o c else not (breaks_three o c))) is

low_alike : (c e o : DelimiterRun) → (c.byte ≡ asterisk) ⊎ (c.byte ≡ underscore) → (e.byte ≡ asterisk) ⊎ (e.byte ≡ underscore)
    → low_kind c ≡ low_kind e → fits c o ≡ fits e o
low_alike c e o is_c is_e same =
    let parts = split_kind (c.count % 3) (e.count % 3) (c.byte == underscore) c.can_open (e.byte == underscore) e.can_open same in
    fits_low c o is_c
    ∙ (ap (λ b. fits_by o b c.can_open ((o.count + c.count) % 3) (c.count % 3)) (same_byte c.byte e.byte is_c is_e parts.1)
    ∙ ap (λ b. fits_by o e.byte b ((o.count + c.count) % 3) (c.count % 3)) parts.2
    ∙ ap (λ s. fits_by o e.byte e.can_open s (c.count % 3)) (sum_mod o.count c.count ∙ ap (λ r. (o.count + r) % 3) parts.0 ∙ sym (sum_mod o.count e.count))
    ∙ ap (λ r. fits_by o e.byte e.can_open ((o.count + e.count) % 3) r) parts.0)
    ∙ sym (fits_low e o is_e)

-- of tildes the number decides, up to two
fits_tilde : (c o : DelimiterRun) → c.byte ≡ tilde → fits c o ≡ (o.byte == tilde && (o.count == c.count && nat_le c.count 2))
fits_tilde c o is = ap (λ b. o.byte == b && (if b == tilde then are_pair o c else not (breaks_three o c))) is

none_of_many : (o n : ℕ) → 2 < n → (o == n && nat_le n 2) ≡ false
none_of_many o n many = rw (lt-leb n 2 many) (and_false (o == n))
  where
    and_false : (b : Bool) → (b && false) ≡ false
    and_false true = refl
    and_false false = refl

tilde_alike : (c e o : DelimiterRun) → c.byte ≡ tilde → e.byte ≡ tilde → min c.count 3 ≡ min e.count 3 → fits c o ≡ fits e o
tilde_alike c e o is_c is_e same = fits_tilde c o is_c ∙ ap (λ b. o.byte == tilde && b) counts ∙ sym (fits_tilde e o is_e)
  where
    counts : (o.count == c.count && nat_le c.count 2) ≡ (o.count == e.count && nat_le e.count 2)
    counts = elim (cases_lt 2 c.count) [
      | inl many ↦ none_of_many o.count c.count many ∙ sym (none_of_many o.count e.count (omega (arith, same, many)))
      | inr few ↦ (let equal : c.count ≡ e.count = omega (arith, same, few) in ap (λ n. o.count == n && nat_le n 2) equal)
    ]

fits_alike : (c e o : DelimiterRun) → IsOfDelimiters c → IsOfDelimiters e → kind_of c ≡ kind_of e → fits c o ≡ fits e o
fits_alike c e o (inl is_c) (inl is_e) same = low_alike c e o is_c is_e (sym (kind_of_low c is_c) ∙ same ∙ kind_of_low e is_e)
fits_alike c e o (inl is_c) (inr is_e) same =
    absurd (omega (arith, low_is_low c, sym (kind_of_low c is_c) ∙ same ∙ kind_of_tilde e is_e))
fits_alike c e o (inr is_c) (inl is_e) same =
    absurd (omega (arith, low_is_low e, sym (kind_of_tilde c is_c) ∙ same ∙ kind_of_low e is_e))
fits_alike c e o (inr is_c) (inr is_e) same =
    tilde_alike c e o is_c is_e (omega (arith, sym (kind_of_tilde c is_c) ∙ same ∙ kind_of_tilde e is_e))

both_skip : (b : Bool) (found : Delimiters × List Delimiters) (rest other : Option (Delimiters × List Delimiters)) → (rest ≡ None → other ≡ None)
    → (if b then Some found else rest) ≡ None → (if b then Some found else other) ≡ None
both_skip true found rest other goes none = none
both_skip false found rest other goes none = goes none

none_alike : (c e : DelimiterRun) → IsOfDelimiters c → IsOfDelimiters e → kind_of c ≡ kind_of e → (openers : List Delimiters)
    → nearest c openers ≡ None → nearest e openers ≡ None
none_alike c e is_c is_e same [] none = refl
none_alike c e is_c is_e same (o ∷ openers) none =
    subst (λ b. (if b then Some (o, openers) else nearest e openers) ≡ None) (fits_alike c e o.run is_c is_e same)
    (both_skip (fits c o.run) (o, openers) (nearest c openers) (nearest e openers) (none_alike c e is_c is_e same openers) none)

-- none is passed at first
pub passed_first : (passed : List ℕ) (openers : List Delimiters) → length passed ≡ 16 → ((k : ℕ) → get_or passed k 0 ≡ 0) → ArePassed passed openers
passed_first passed openers kinds zeros = record {
  kinds = kinds;
  few = λ kind. omega (arith, zeros kind);
  none = λ closer is. ap (λ n. nearest closer (reverse (take n openers))) (zeros (kind_of closer));
}

-- all openers are passed for the kind of a closer that none of them fits
pub passed_all : (passed : List ℕ) (openers : List Delimiters) (c : DelimiterRun) → IsOfDelimiters c → kind_of c < 16
    → nearest c (reverse openers) ≡ None → ArePassed passed openers → ArePassed (slice_set passed (kind_of c) (length openers)) openers
passed_all passed openers c is_c within none before = record {
  kinds = length-set passed (kind_of c) (length openers) ∙ before.kinds;
  few = λ kind. elim (cases_eq kind (kind_of c)) [
    | inl same ↦ omega (arith, ap (λ k. get_or (slice_set passed (kind_of c) (length openers)) k 0) same, here)
    | inr other ↦ omega (arith, get_or-set_other passed (kind_of c) kind (length openers) 0 other, before.few kind)
  ];
  none = λ e is_e. elim (cases_eq (kind_of e) (kind_of c)) [
    | inl same ↦ subst (λ n. nearest e (reverse (take n openers)) ≡ None)
        (sym (ap (λ k. get_or (slice_set passed (kind_of c) (length openers)) k 0) same ∙ here))
        (subst (λ os. nearest e (reverse os) ≡ None) (sym (take-length openers)) (none_alike c e is_c is_e (sym same) (reverse openers) none))
    | inr other ↦ subst (λ n. nearest e (reverse (take n openers)) ≡ None)
        (sym (get_or-set_other passed (kind_of c) (kind_of e) (length openers) 0 other)) (before.none e is_e)
  ];
}
  where
    here : get_or (slice_set passed (kind_of c) (length openers)) (kind_of c) 0 ≡ length openers
    here = get_or-set_same passed (kind_of c) (length openers) 0 (omega (arith, within, before.kinds))

-- openers are taken away, and at most so many that are left are passed
pub passed_fewer : (passed lowered : List ℕ) (openers left : List Delimiters) (most : ℕ) → ((k : ℕ) → get_or lowered k 0 ≡ min (get_or passed k 0) most)
    → length lowered ≡ length passed → take most left ≡ take most openers → most ≤ length left → ArePassed passed openers → ArePassed lowered left
passed_fewer passed lowered openers left most low kinds outer few before = record {
  kinds = kinds ∙ before.kinds;
  few = λ kind. omega (arith, low kind, few);
  none = λ closer is.
      let n = min (get_or passed (kind_of closer) 0) most in
      let below : n ≤ most = omega arith in
      let same : take n left ≡ take n openers =
      sym (take_first n most left below) ∙ ap (take n) outer ∙ take_first n most openers below in
      subst (λ k. nearest closer (reverse (take k left)) ≡ None) (sym (low (kind_of closer)))
      (subst (λ os. nearest closer (reverse os) ≡ None) (sym same)
      (none_fewer closer openers (get_or passed (kind_of closer) 0) n (omega arith) (before.none closer is)));
}

-- an opener more
pub passed_push : (passed : List ℕ) (openers : List Delimiters) (o : Delimiters) → ArePassed passed openers → ArePassed passed (openers ++ o ∷ [])
passed_push passed openers o before = record {
  kinds = before.kinds;
  few = λ kind. omega (arith, before.few kind, length-append openers (o ∷ []));
  none = λ closer is. subst (λ os. nearest closer (reverse os) ≡ None)
      (sym (take-append-le (get_or passed (kind_of closer) 0) openers (o ∷ []) (before.few (kind_of closer)))) (before.none closer is);
}
