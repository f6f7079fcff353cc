-- A bare link destination, read unit by unit.
use Rattle.std.proofs.Common.{◌≡◌, ℕ, zero, suc, ◌+◌, ◌<◌, ◌≤◌, Bool, true, false, cond, ltb, leb, eqb, List, [], ◌∷◌, ◌++◌}
use Rattle.std.proofs.Common.{length, take, drop, get_or, refl, ap, ◌∙◌, sym, subst, arith, ◌≢◌, inl, inr, ◌⊎◌}
use Rattle.std.specs.List.{concat, list_all, prefix_len}
use Rattle.std.proofs.lemmas.List.{length-append, drop_all, length-drop, get_or-drop}
use Rattle.markdown_scanners_tree.proofs.PrefixLemmas.{both_true}
use Rattle.std.proofs.lemmas.List.Sums.{sum_by-cons, prefix_len_passes, prefix_len-le-length}
use Rattle.std.proofs.lemmas.Bool.{false≢true, false_from_ne_true, or_cases, or_parts, or_left, or_right, le-leb, ltb-true}
use Rattle.std.proofs.lemmas.Bool.{leb-true, leb-false, and_parts, eqb-true, le-ltb, lt-ltb, eq-eqb, ne_eqb, and_from}
use Rattle.std.specs.Prelude.{◌||◌, ◌&&◌}
use Rattle.markdown_scanners_tree.proofs.scanners.classes.DestinationBytes.{in_destination}
use Rattle.markdown_scanners_tree.proofs.scanners.escapes.UnitLemmas.{units_single_at, units_escape_at, plain_byte}
use Rattle.markdown_scanners_tree.specs.Ascii.{space, left_parenthesis, right_parenthesis}
use Rattle.markdown_scanners_tree.specs.scanners.Escapes.{units, starts_escape}
use Rattle.markdown_scanners_tree.specs.scanners.classes.private.InDestination.{is_in_destination}
use Rattle.markdown_scanners_tree.specs.scanners.links.LinkDestination.{is_single, stands_bare, opening_count, closing_count, IsBalanced, ends_bare, IsBareFrom}

-- d parentheses are open before the unit and d' after it
abbrev pub Turns : List ℕ → ℕ → ℕ → Type 0
Turns u d d' = d' + closing_count (u ∷ []) ≡ d + opening_count (u ∷ [])

opening-cons : (u : List ℕ) (us : List (List ℕ)) → opening_count (u ∷ us) ≡ opening_count (u ∷ []) + opening_count us
opening-cons u us =
    let e : opening_count (u ∷ us) ≡ cond (is_single left_parenthesis u) 1 0 + opening_count us =
    sum_by-cons (λ x. cond (is_single left_parenthesis x) 1 0) u us in
    let one : opening_count (u ∷ []) ≡ 0 + cond (is_single left_parenthesis u) 1 0 = refl in
    omega (arith, e, one)

closing-cons : (u : List ℕ) (us : List (List ℕ)) → closing_count (u ∷ us) ≡ closing_count (u ∷ []) + closing_count us
closing-cons u us =
    let e : closing_count (u ∷ us) ≡ cond (is_single right_parenthesis u) 1 0 + closing_count us =
    sum_by-cons (λ x. cond (is_single right_parenthesis x) 1 0) u us in
    let one : closing_count (u ∷ []) ≡ 0 + cond (is_single right_parenthesis u) 1 0 = refl in
    omega (arith, e, one)

-- a balanced list with one more unit at its front
balanced_on : (most d d' : ℕ) (u : List ℕ) (us : List (List ℕ)) → Turns u d d' → d ≤ most → IsBalanced most d' us
    → IsBalanced most d (u ∷ us)
balanced_on most d d' u us turns low is = record {
  never_below = below;
  never_above = above;
  closed = omega (arith, turns, is.closed, opening-cons u us, closing-cons u us);
} where
  below : (k : ℕ) → k ≤ length (u ∷ us) → closing_count (take k (u ∷ us)) ≤ d + opening_count (take k (u ∷ us))
  below zero l = omega arith
  below (suc k) l =
      omega (arith, turns, is.never_below k (omega (arith, l)), opening-cons u (take k us), closing-cons u (take k us))

  above : (k : ℕ) → k ≤ length (u ∷ us) → d + opening_count (take k (u ∷ us)) ≤ most + closing_count (take k (u ∷ us))
  above zero l = omega (arith, low)
  above (suc k) l =
      omega (arith, turns, is.never_above k (omega (arith, l)), opening-cons u (take k us), closing-cons u (take k us))

pub balanced_off : (most d d' : ℕ) (u : List ℕ) (us : List (List ℕ)) → Turns u d d' → IsBalanced most d (u ∷ us)
    → IsBalanced most d' us
balanced_off most d d' u us turns is = record {
  never_below =
      λ k l. omega (
        arith,
        turns,
        is.never_below (suc k) (omega (arith, l)),
        opening-cons u (take k us),
        closing-cons u (take k us),
      );
  never_above =
      λ k l. omega (
        arith,
        turns,
        is.never_above (suc k) (omega (arith, l)),
        opening-cons u (take k us),
        closing-cons u (take k us),
      );
  closed = omega (arith, turns, is.closed, opening-cons u us, closing-cons u us);
}

-- equal lists have equal heads and equal tails
abbrev pub head_of : List (List ℕ) → List ℕ
head_of [] = []
head_of (u ∷ us) = u

-- the destination goes on after a unit exactly as it goes on after it
pub step_forth : (most d d' n : ℕ) (t t' u : List ℕ) → units t ≡ u ∷ units t' → stands_bare u ≡ true → Turns u d d'
    → d ≤ most
    → IsBareFrom most d' t' n → IsBareFrom most d t (length u + n)
step_forth most d d' n t t' u first stands turns low is = record {
  inner = u ∷ is.inner;
  more = is.more;
  splits = first ∙ ap (λ us. u ∷ us) is.splits;
  each_stands = and_from (stands_bare u) (list_all stands_bare is.inner) stands is.each_stands;
  balanced = balanced_on most d d' u is.inner turns low is.balanced;
  ends = is.ends;
  n_is_length = omega (arith, is.n_is_length, length-append u (concat is.inner));
}

-- of what stands in a destination only `)` may end it
pub ends_unit : (u : List ℕ) (us : List (List ℕ)) → stands_bare u ≡ true → ends_bare (u ∷ us) ≡ true
    → u ≡ right_parenthesis ∷ []
ends_unit [] us stands ends = absurd (false≢true stands)
ends_unit (b ∷ []) us stands ends = elim (or_cases (leb b space) (eqb b right_parenthesis) ends) [
  | inl low ↦ absurd (omega (arith, leb-true b space low, ltb-true space b stands))
  | inr close ↦ ap (λ x. x ∷ []) (eqb-true b right_parenthesis close)
]
ends_unit (b ∷ c ∷ cs) us stands ends = absurd (false≢true ends)

pub step_back : (most d d' n : ℕ) (t t' u : List ℕ) → units t ≡ u ∷ units t' → stands_bare u ≡ true → Turns u d d'
    → IsBareFrom most d t n → (m : ℕ) × (n ≡ length u + m) × IsBareFrom most d' t' m
step_back most d d' n t t' u first stands turns is =
    go is.inner is.splits is.each_stands is.balanced is.n_is_length where
      go : (inner : List (List ℕ)) → units t ≡ inner ++ is.more → list_all stands_bare inner ≡ true
          → IsBalanced most d inner → n ≡ length (concat inner)
          → (m : ℕ) × (n ≡ length u + m) × IsBareFrom most d' t' m
      go [] splits made balanced long =
          let close : u ≡ right_parenthesis ∷ [] =
          ends_unit u (units t') stands (ap ends_bare (sym first ∙ splits) ∙ is.ends) in
          let turned : Turns (right_parenthesis ∷ []) d d' = subst (λ x. Turns x d d') close turns in
          absurd (omega (arith, turned, balanced.closed))
      go (v ∷ inner) splits made balanced long =
          let both : u ∷ units t' ≡ v ∷ (inner ++ is.more) = sym first ∙ splits in
          let same : u ≡ v = ap head_of both in
          let rest : units t' ≡ inner ++ is.more = ap (drop 1) both in (
            length (concat inner),
            omega (arith, long, length-append v (concat inner), ap length same),
            record {
              inner = inner;
              more = is.more;
              splits = rest;
              each_stands = (both_true (stands_bare v) (list_all stands_bare inner) made).1;
              balanced = balanced_off most d d' v inner (subst (λ x. Turns x d d') same turns) balanced;
              ends = is.ends;
              n_is_length = refl;
            },
          )

-- a parenthesis too deep: no destination
pub too_deep : (most n : ℕ) (t : List ℕ) (us : List (List ℕ)) → units t ≡ (left_parenthesis ∷ []) ∷ us
    → IsBareFrom most most t n → ⊥
too_deep most n t us first is = go is.inner is.splits is.balanced where
  go : (inner : List (List ℕ)) → units t ≡ inner ++ is.more → IsBalanced most most inner → ⊥
  go [] splits balanced = false≢true (ap ends_bare (sym first ∙ splits) ∙ is.ends)
  go (v ∷ inner) splits balanced =
      let same : left_parenthesis ∷ [] ≡ v = ap head_of (sym first ∙ splits) in
      let one : most + opening_count (v ∷ []) ≤ most + closing_count (v ∷ []) = balanced.never_above 1 (omega arith) in
      let one' : most + opening_count ((left_parenthesis ∷ []) ∷ []) ≤ most + closing_count
      ((left_parenthesis ∷ []) ∷ []) =
      subst (λ x. most + opening_count (x ∷ []) ≤ most + closing_count (x ∷ [])) (sym same) one in
      absurd (omega (arith, one'))

-- where the text ends or a byte ends it: the empty destination, with no parenthesis open
pub bare_here : (most : ℕ) (t : List ℕ) → ends_bare (units t) ≡ true → IsBareFrom most 0 t 0
bare_here most t ends = record {
  inner = [];
  more = units t;
  splits = refl;
  each_stands = refl;
  balanced = record { never_below = λ k l. never k; never_above = λ k l. above k; closed = refl };
  ends = ends;
  n_is_length = refl;
} where
  never : (k : ℕ) → closing_count (take k []) ≤ 0 + opening_count (take k [])
  never zero = omega arith
  never (suc k) = omega arith

  above : (k : ℕ) → 0 + opening_count (take k []) ≤ most + closing_count (take k [])
  above zero = omega arith
  above (suc k) = omega arith

-- the text ends, or with a byte that is neither in a destination nor `)`, while a parenthesis is
-- open: no destination
left_open : (most d n : ℕ) (t : List ℕ) → 0 < d → stands_bare (head_of (units t)) ≡ false → IsBareFrom most d t n → ⊥
left_open most d n t open' stop is = go is.inner is.splits is.each_stands is.balanced where
  go : (inner : List (List ℕ)) → units t ≡ inner ++ is.more → list_all stands_bare inner ≡ true
      → IsBalanced most d inner → ⊥
  go [] splits made balanced = absurd (omega (arith, balanced.closed, open'))
  go (v ∷ inner) splits made balanced =
      false≢true (sym stop ∙ (ap stands_bare (ap head_of splits)
      ∙ (both_true (stands_bare v) (list_all stands_bare inner) made).0))

-- After i bytes, after `depth` open parentheses: the whole text's destinations are those of the
-- rest.
pub record IsBareSoFar (most depth i : ℕ) (bytes : List ℕ) : Type 0 where
  pub within : i ≤ length bytes
  pub depth_at_most : depth ≤ most
  pub forth : (n : ℕ) → IsBareFrom most depth (drop i bytes) n → IsBareFrom most 0 bytes (i + n)
  pub back : (n : ℕ) → IsBareFrom most 0 bytes n → (m : ℕ) × (n ≡ i + m) × IsBareFrom most depth (drop i bytes) m

-- one more unit
so_far_more : (most d d' i j : ℕ) (bytes u : List ℕ) → IsBareSoFar most d i bytes
    → units (drop i bytes) ≡ u ∷ units (drop j bytes) → j ≡ i + length u
    → j ≤ length bytes → stands_bare u ≡ true → Turns u d d' → d' ≤ most → IsBareSoFar most d' j bytes
so_far_more most d d' i j bytes u is first long in' stands turns low = record {
  within = in';
  depth_at_most = low;
  forth = λ n there. subst (IsBareFrom most 0 bytes) (omega (arith, long))
      (is.forth (length u + n)
      (step_forth most d d' n (drop i bytes) (drop j bytes) u first stands turns is.depth_at_most there));
  back = λ n there.
      let old = is.back n there in
      let new = step_back most d d' old.0 (drop i bytes) (drop j bytes) u first stands turns old.2 in
      (new.0, omega (arith, old.1, new.1, long), new.2);
}

-- whether the byte ends a destination after d open parentheses
abbrev ends_at : ℕ → ℕ → Bool
ends_at b d = leb b space || (eqb b right_parenthesis && eqb d 0)

-- such a byte, and one that is above space and closes an open parenthesis or is none
pub ends_low : (b d : ℕ) → b ≤ space → ends_at b d ≡ true
ends_low b d low = or_left (leb b space) (eqb b right_parenthesis && eqb d 0) (le-leb b space low)

pub ends_closing : (b d : ℕ) → b ≡ right_parenthesis → d ≡ 0 → ends_at b d ≡ true
ends_closing b d close none =
    or_right (leb b space) (eqb b right_parenthesis && eqb d 0)
    (and_from (eqb b right_parenthesis) (eqb d 0) (eq-eqb b right_parenthesis close) (eq-eqb d 0 none))

pub no_end : (b d : ℕ) → space < b → (b ≡ right_parenthesis → d ≡ 0 → ⊥) → ends_at b d ≡ false
no_end b d high opened =
    false_from_ne_true (ends_at b d) (λ ends. elim (or_cases (leb b space) (eqb b right_parenthesis && eqb d 0) ends) [
      | inl low ↦ omega (arith, high, leb-true b space low)
      | inr close ↦ let both = and_parts (eqb b right_parenthesis) (eqb d 0) close in
          opened (eqb-true b right_parenthesis both.0) (eqb-true d 0 both.1)
    ])

not_ended : (b d : ℕ) → ends_at b d ≡ false → (stands_bare (b ∷ []) ≡ true) × (b ≡ right_parenthesis → d ≡ 0 → ⊥)
not_ended b d e =
    let parts = or_parts (leb b space) (eqb b right_parenthesis && eqb d 0) e in (
      lt-ltb space b (omega (arith, leb-false b space parts.0)),
      λ close none. false≢true
          (sym parts.1 ∙ and_from (eqb b right_parenthesis) (eqb d 0) (eq-eqb b right_parenthesis close)
          (eq-eqb d 0 none)),
    )

pub turns_open : (b d d' : ℕ) → b ≡ left_parenthesis → d' ≡ d + 1 → Turns (b ∷ []) d d'
turns_open b d d' is more = subst (λ x. Turns (x ∷ []) d d') (sym is) (omega (arith, more))

pub turns_close : (b d d' : ℕ) → b ≡ right_parenthesis → d' + 1 ≡ d → Turns (b ∷ []) d d'
turns_close b d d' is less = subst (λ x. Turns (x ∷ []) d d') (sym is) (omega (arith, less))

pub turns_other : (b d d' : ℕ) → b ≢ left_parenthesis → b ≢ right_parenthesis → d' ≡ d → Turns (b ∷ []) d d'
turns_other b d d' n40 n41 same =
    rw (ne_eqb b left_parenthesis n40, ne_eqb b right_parenthesis n41) (omega (arith, same))

-- two bytes, then one
pub so_far_escape : (most d i : ℕ) (bytes : List ℕ) → IsBareSoFar most d i bytes → i + 2 ≤ length bytes
    → starts_escape (drop i bytes) ≡ true → IsBareSoFar most d (i + 2) bytes
so_far_escape most d i bytes is in' escape =
    so_far_more most d d i (i + 2) bytes (get_or bytes i 0 ∷ get_or bytes (i + 1) 0 ∷ []) is
    (units_escape_at bytes i in' escape) refl in' refl refl is.depth_at_most

pub so_far_single : (most d d' i : ℕ) (bytes : List ℕ) → IsBareSoFar most d i bytes → i < length bytes
    → starts_escape (drop i bytes) ≡ false
    → ends_at (get_or bytes i 0) d ≡ false → Turns (get_or bytes i 0 ∷ []) d d' → d' ≤ most
    → IsBareSoFar most d' (i + 1) bytes
so_far_single most d d' i bytes is in' plain on turns low =
    so_far_more most d d' i (i + 1) bytes (get_or bytes i 0 ∷ []) is (units_single_at bytes i in' plain) refl
    (omega (arith, in')) (not_ended (get_or bytes i 0) d on).0 turns low

-- bytes that neither nest, escape nor end a destination
pub so_far_plain : (most d i n : ℕ) (bytes : List ℕ) → IsBareSoFar most d i bytes
    → n ≤ prefix_len is_in_destination (drop i bytes) → IsBareSoFar most d (i + n) bytes
so_far_plain most d i zero bytes is few = subst (λ k. IsBareSoFar most d k bytes) (omega arith) is
so_far_plain most d i (suc n) bytes is few =
    let before = so_far_plain most d i n bytes is (omega (arith, few)) in
    let inside : i + n < length bytes =
    omega (arith, few, prefix_len-le-length is_in_destination (drop i bytes), length-drop i bytes) in
    let plain = in_destination (get_or bytes (i + n) 0)
    (ap is_in_destination (sym (get_or-drop i bytes n 0))
    ∙ prefix_len_passes is_in_destination (drop i bytes) n 0 (omega (arith, few))) in
    subst (λ k. IsBareSoFar most d k bytes) (omega arith)
    (so_far_single most d d (i + n) bytes before inside (plain_byte bytes (i + n) inside plain.no_escape)
    (no_end (get_or bytes (i + n) 0) d plain.high (λ close none. plain.no_close close))
    (turns_other _ d d plain.no_open plain.no_close refl) before.depth_at_most)

-- the offset at which the loop stops
abbrev pub IsStop : List ℕ → ℕ → ℕ → Type 0
IsStop bytes i d = (length bytes ≤ i) ⊎ ((i < length bytes) × (ends_at (get_or bytes i 0) d ≡ true))

stop_plain : (bytes : List ℕ) (i d : ℕ) → i < length bytes → ends_at (get_or bytes i 0) d ≡ true
    → starts_escape (drop i bytes) ≡ false
stop_plain bytes i d in' ends = plain_byte bytes i in' (λ is.
    false≢true (ap (λ b. ends_at b d) (sym is) ∙ ends))

stop_ends : (bytes : List ℕ) (i d : ℕ) → IsStop bytes i d → ends_bare (units (drop i bytes)) ≡ true
stop_ends bytes i d is = elim is [
  | inl past ↦ ap (λ t. ends_bare (units t)) (drop_all i bytes past)
  | inr at ↦ ap ends_bare (units_single_at bytes i at.0 (stop_plain bytes i d at.0 at.1))
      ∙ weaker (get_or bytes i 0) d at.1
] where
  weaker : (b d : ℕ) → ends_at b d ≡ true → (leb b space || eqb b right_parenthesis) ≡ true
  weaker b d e = elim (or_cases (leb b space) (eqb b right_parenthesis && eqb d 0) e) [
    | inl low ↦ rw low refl
    | inr close ↦
        or_right (leb b space) (eqb b right_parenthesis) (and_parts (eqb b right_parenthesis) (eqb d 0) close).0
  ]

pub found_here : (most i : ℕ) (bytes : List ℕ) → IsBareSoFar most 0 i bytes → IsStop bytes i 0
    → IsBareFrom most 0 bytes i
found_here most i bytes is stop =
    subst (IsBareFrom most 0 bytes) (omega arith)
    (is.forth 0 (bare_here most (drop i bytes) (stop_ends bytes i 0 stop)))

pub none_open : (most d i n : ℕ) (bytes : List ℕ) → IsBareSoFar most d i bytes → IsStop bytes i d → 0 < d
    → IsBareFrom most 0 bytes n → ⊥
none_open most d i n bytes is stop open' there =
    let rest = is.back n there in left_open most d rest.0 (drop i bytes) open' (elim stop [
      | inl past ↦ ap (λ t. stands_bare (head_of (units t))) (drop_all i bytes past)
      | inr at ↦ ap (λ us. stands_bare (head_of us)) (units_single_at bytes i at.0 (stop_plain bytes i d at.0 at.1))
          ∙ shut (get_or bytes i 0) d open' at.1
    ]) rest.2 where
      shut : (b d : ℕ) → 0 < d → ends_at b d ≡ true → ltb space b ≡ false
      shut b d open' e = elim (or_cases (leb b space) (eqb b right_parenthesis && eqb d 0) e) [
        | inl low ↦ le-ltb space b (omega (arith, leb-true b space low))
        | inr close ↦
            absurd (omega (arith, open', eqb-true d 0 (and_parts (eqb b right_parenthesis) (eqb d 0) close).1))
      ]

pub none_deep : (most d i n : ℕ) (bytes : List ℕ) → IsBareSoFar most d i bytes → i < length bytes
    → starts_escape (drop i bytes) ≡ false → get_or bytes i 0 ≡ left_parenthesis → d ≡ most
    → IsBareFrom most 0 bytes n → ⊥
none_deep most d i n bytes is in' plain open' full there =
    let rest = is.back n there in
    too_deep most rest.0 (drop i bytes) (units (drop (i + 1) bytes))
    (units_single_at bytes i in' plain ∙ ap (λ b. (b ∷ []) ∷ units (drop (i + 1) bytes)) open')
    (subst (λ k. IsBareFrom most k (drop i bytes) rest.0) full rest.2)
