-- A link title, read unit by unit.
use Rattle.std.proofs.Common.{◌≡◌, ℕ, ◌+◌, ◌<◌, ◌≤◌, ◌≢◌, ◌&&◌, ◌||◌, ◌==◌, ◌⊎◌, true, false, not, List, [], ◌∷◌, ◌++◌}
use Rattle.std.proofs.Common.{length, drop, get_or, refl, ap, ◌∙◌, sym, subst, arith, inl, inr, Some, None, append_assoc}
use Rattle.std.specs.List.{concat, list_all}
use Rattle.std.proofs.lemmas.List.{length-append, drop_all}
use Rattle.std.proofs.lemmas.Bool.{cases_Bool, false≢true, and_from, and_parts, eqb-true, eq-eqb, ne_eqb}
use Rattle.std.proofs.lemmas.Bool.Decides.{nat_tests}
use Rattle.markdown_scanners_tree.specs.Bytes.{is_punctuation, is_line_ending, is_blank}
use Rattle.markdown_scanners_tree.specs.scanners.Escapes.{units, starts_escape}
use Rattle.markdown_scanners_tree.specs.scanners.TextLines.{ends_line}
use Rattle.markdown_scanners_tree.specs.scanners.classes.private.InDestination.{is_in_destination}
use Rattle.markdown_scanners_tree.specs.scanners.titles.LinkTitle.{closing_of, stands_in_title}
use Rattle.markdown_scanners_tree.specs.scanners.titles.private.TitleFrom.{is_before_blank_line, later_lines_filled, IsTitleFrom}
use Rattle.markdown_scanners_tree.proofs.PrefixLemmas.{both_true}
use Rattle.markdown_scanners_tree.proofs.scanners.classes.DestinationBytes.{in_destination}
use Rattle.markdown_scanners_tree.proofs.scanners.escapes.UnitLemmas.{units_single_at, units_escape_at, plain_byte, drop_at_offset, units_joined}
use Rattle.markdown_scanners_tree.proofs.scanners.links.BareLemmas.{head_of}
use Rattle.markdown_scanners_tree.proofs.scanners.titles.BlankSteps.{IsMark, blank_cut, ends_cut, goes_on, filled_on, filled_ended, not_filled}

-- the two bytes around a title
pub around : (opening closing : ℕ) → closing_of opening ≡ Some closing
    → ((opening ≡ closing) × ((opening ≡ 34) ⊎ (opening ≡ 39))) ⊎ ((opening ≡ 40) × (closing ≡ 41))
around opening closing is = elim (cases_Bool (opening == 34)) [
  | inl double ↦
      inl ((let same : Some opening ≡ Some closing = rw double at is in cc), inl (eqb-true opening 34 double))
  | inr no_double ↦ elim (cases_Bool (opening == 39)) [
    | inl single ↦
        inl (
          (let same : Some opening ≡ Some closing = rw (no_double, single) at is in cc),
          inr (eqb-true opening 39 single),
        )
    | inr no_single ↦ elim (cases_Bool (opening == 40)) [
      | inl paren ↦
          inr (
            eqb-true opening 40 paren,
            (let same : Some 41 ≡ Some closing = rw (no_double, no_single, paren) at is in cc),
          )
      | inr other ↦ absurd (let none : None ≡ Some closing = rw (no_double, no_single, other) at is in cc)
    ]
  ]
]

pub ascii_around : (opening closing : ℕ) → closing_of opening ≡ Some closing → (opening < 128) × (closing < 128)
ascii_around opening closing is = elim (around opening closing is) [
  | inl quotes ↦ elim quotes.1 [
    | inl double ↦ (omega (arith, double), omega (arith, double, quotes.0))
    | inr single ↦ (omega (arith, single), omega (arith, single, quotes.0))
  ]
  | inr parens ↦ (omega (arith, parens.0), omega (arith, parens.1))
]

mark_of : (b n : ℕ) → b ≡ n → IsMark n → IsMark b
mark_of b n is mark = subst IsMark (sym is) mark

pub opening_mark : (opening closing : ℕ) → closing_of opening ≡ Some closing → IsMark opening
opening_mark opening closing is = elim (around opening closing is) [
  | inl quotes ↦ elim quotes.1 [
    | inl double ↦ mark_of opening 34 double (record { no_ending = refl; no_space = refl; no_escape = λ e. absurd (omega (arith, e)) })
    | inr single ↦ mark_of opening 39 single (record { no_ending = refl; no_space = refl; no_escape = λ e. absurd (omega (arith, e)) })
  ]
  | inr parens ↦ mark_of opening 40 parens.0 (record { no_ending = refl; no_space = refl; no_escape = λ e. absurd (omega (arith, e)) })
]

pub closing_mark : (opening closing : ℕ) → closing_of opening ≡ Some closing → IsMark closing
closing_mark opening closing is = elim (around opening closing is) [
  | inl quotes ↦ subst IsMark quotes.0 (opening_mark opening closing is)
  | inr parens ↦ mark_of closing 41 parens.1 (record { no_ending = refl; no_space = refl; no_escape = λ e. absurd (omega (arith, e)) })
]

concat_append : (us vs : List (List ℕ)) → concat (us ++ vs) ≡ concat us ++ concat vs
concat_append [] vs = refl
concat_append (u ∷ us) vs = ap (λ t. u ++ t) (concat_append us vs) ∙ sym (append_assoc u (concat us) (concat vs))

-- the bytes of units before a single one
pub joined_at : (t : List ℕ) (closing : ℕ) (inner more : List (List ℕ)) → units t ≡ inner ++ (closing ∷ []) ∷ more
    → t ≡ concat inner ++ closing ∷ concat more
joined_at t closing inner more splits =
    sym (units_joined t) ∙ (ap concat splits ∙ concat_append inner ((closing ∷ []) ∷ more))

-- A unit before t, which goes on with a title, begins no blank line.
abbrev Passes : ℕ → List ℕ → List ℕ → Type 0
Passes closing u t =
    (inner rest : List ℕ) → t ≡ inner ++ closing ∷ rest
    → later_lines_filled (u ++ (inner ++ closing ∷ [])) ≡ later_lines_filled (inner ++ closing ∷ [])

passes_byte : (closing b : ℕ) (t : List ℕ) → IsMark closing → (ends_line (b ∷ t) && is_blank t) ≡ false
    → Passes closing (b ∷ []) t
passes_byte closing b t mark fine inner rest is =
    let cut = sym (ends_cut b closing inner rest) ∙ ap (λ x. ends_line (b ∷ x)) (sym is) in
    elim (cases_Bool (ends_line (b ∷ t))) [
      | inl ends ↦
          filled_ended b (inner ++ closing ∷ []) (cut ∙ ends)
          (sym (blank_cut closing mark inner rest)
          ∙ (ap is_blank (sym is) ∙ (ap (λ x. x && is_blank t) (sym ends) ∙ fine)))
      | inr goes ↦ filled_on b (inner ++ closing ∷ []) (cut ∙ goes)
    ]

passes_two : (closing b d : ℕ) (t : List ℕ) → is_line_ending b ≡ false → is_line_ending d ≡ false
    → Passes closing (b ∷ d ∷ []) t
passes_two closing b d t first second inner rest is =
    let title = inner ++ closing ∷ [] in
    filled_on b (d ∷ title) (goes_on b (d ∷ title) first) ∙ filled_on d title (goes_on d title second)

title_forth : (opening closing n : ℕ) (t t' u : List ℕ) → units t ≡ u ∷ units t'
    → stands_in_title opening closing u ≡ true → Passes closing u t' → IsTitleFrom opening closing t' n
    → IsTitleFrom opening closing t (length u + n)
title_forth opening closing n t t' u first stands passes is = record {
  inner = u ∷ is.inner;
  more = is.more;
  splits = first ∙ ap (λ us. u ∷ us) is.splits;
  each_stands =
      and_from (stands_in_title opening closing u) (list_all (stands_in_title opening closing) is.inner) stands
      is.each_stands;
  n_is_length = omega (arith, is.n_is_length, length-append u (concat is.inner));
  filled = ap later_lines_filled (append_assoc u (concat is.inner) (closing ∷ []))
      ∙ (passes (concat is.inner) (concat is.more) (joined_at t' closing is.inner is.more is.splits) ∙ is.filled);
}

title_back : (opening closing n : ℕ) (t t' u : List ℕ) → units t ≡ u ∷ units t' → u ≢ closing ∷ []
    → Passes closing u t' → IsTitleFrom opening closing t n
    → (m : ℕ) × (n ≡ length u + m) × IsTitleFrom opening closing t' m
title_back opening closing n t t' u first other passes is =
    go is.inner is.splits is.each_stands is.n_is_length is.filled where
      go : (inner : List (List ℕ)) → units t ≡ inner ++ (closing ∷ []) ∷ is.more
          → list_all (stands_in_title opening closing) inner ≡ true → n ≡ length (concat inner)
          → later_lines_filled (concat inner ++ closing ∷ []) ≡ true
          → (m : ℕ) × (n ≡ length u + m) × IsTitleFrom opening closing t' m
      go [] splits made long filled = absurd (other (ap head_of (sym first ∙ splits)))
      go (v ∷ inner) splits made long filled =
          let both : u ∷ units t' ≡ v ∷ (inner ++ (closing ∷ []) ∷ is.more) = sym first ∙ splits in
          let same : u ≡ v = ap head_of both in
          let rest : units t' ≡ inner ++ (closing ∷ []) ∷ is.more = ap (drop 1) both in
          let title = concat inner ++ closing ∷ [] in (
            length (concat inner),
            omega (arith, long, length-append v (concat inner), ap length same),
            record {
              inner = inner;
              more = is.more;
              splits = rest;
              each_stands =
                  (both_true (stands_in_title opening closing v) (list_all (stands_in_title opening closing) inner)
                  made).1;
              n_is_length = refl;
              filled = sym (passes (concat inner) (concat is.more) (joined_at t' closing inner is.more rest))
                  ∙ (ap (λ x. later_lines_filled (x ++ title)) same
                  ∙ (sym (ap later_lines_filled (append_assoc v (concat inner) (closing ∷ []))) ∙ filled));
            },
          )

-- After i bytes: the titles of all bytes are those of the rest.
pub record IsTitleSoFar (opening closing i : ℕ) (bytes : List ℕ) : Type 0 where
  pub within : i ≤ length bytes
  pub forth : (n : ℕ) → IsTitleFrom opening closing (drop i bytes) n → IsTitleFrom opening closing bytes (i + n)
  pub back : (n : ℕ) → IsTitleFrom opening closing bytes n
      → (m : ℕ) × (n ≡ i + m) × IsTitleFrom opening closing (drop i bytes) m

title_more : (opening closing i j : ℕ) (bytes u : List ℕ) → IsTitleSoFar opening closing i bytes
    → units (drop i bytes) ≡ u ∷ units (drop j bytes) → j ≡ i + length u → j ≤ length bytes
    → stands_in_title opening closing u ≡ true → u ≢ closing ∷ [] → Passes closing u (drop j bytes)
    → IsTitleSoFar opening closing j bytes
title_more opening closing i j bytes u is first long in' stands other passes = record {
  within = in';
  forth = λ n there. subst (IsTitleFrom opening closing bytes) (omega (arith, long))
      (is.forth (length u + n)
      (title_forth opening closing n (drop i bytes) (drop j bytes) u first stands passes there));
  back = λ n there.
      let old = is.back n there in
      let new = title_back opening closing old.0 (drop i bytes) (drop j bytes) u first other passes old.2 in
      (new.0, omega (arith, old.1, new.1, long), new.2);
}

no_ending_in : (b : ℕ) → is_punctuation b ≡ true → is_line_ending b ≡ false
no_ending_in b is = grind (arith, nat_tests)

-- two bytes, then one
pub title_escape : (opening closing i : ℕ) (bytes : List ℕ) → IsTitleSoFar opening closing i bytes
    → i + 2 ≤ length bytes → starts_escape (drop i bytes) ≡ true → IsTitleSoFar opening closing (i + 2) bytes
title_escape opening closing i bytes is in' escape =
    let b = get_or bytes i 0 in
    let d = get_or bytes (i + 1) 0 in
    let spelled : drop i bytes ≡ b ∷ d ∷ drop (i + 1 + 1) bytes =
    drop_at_offset bytes i (omega (arith, in'))
    ∙ ap (λ rest. b ∷ rest) (drop_at_offset bytes (i + 1) (omega (arith, in'))) in
    let parts = and_parts (b == 92) (is_punctuation d) (ap starts_escape (sym spelled) ∙ escape) in
    title_more opening closing i (i + 2) bytes (b ∷ d ∷ []) is (units_escape_at bytes i in' escape) refl in' refl
    (λ e. absurd (omega (arith, ap length e)))
    (passes_two closing b d (drop (i + 2) bytes) (ap is_line_ending (eqb-true b 92 parts.0)) (no_ending_in d parts.1))

pub title_single : (opening closing i : ℕ) (bytes : List ℕ) → IsMark closing → IsTitleSoFar opening closing i bytes
    → i < length bytes → starts_escape (drop i bytes) ≡ false → get_or bytes i 0 ≢ closing → get_or bytes i 0 ≢ opening
    → is_before_blank_line (drop i bytes) ≡ false → IsTitleSoFar opening closing (i + 1) bytes
title_single opening closing i bytes mark is in' plain no_closing no_opening fine =
    let b = get_or bytes i 0 in
    title_more opening closing i (i + 1) bytes (b ∷ []) is (units_single_at bytes i in' plain) refl (omega (arith, in'))
    (rw (ne_eqb b opening no_opening, ne_eqb b closing no_closing) refl)
    (λ e. no_closing (ap (λ u. get_or u 0 0) e))
    (passes_byte closing b (drop (i + 1) bytes) mark
    (ap is_before_blank_line (sym (drop_at_offset bytes i in')) ∙ fine))

-- a byte that the table tells
pub title_plain : (opening closing i : ℕ) (bytes : List ℕ) → closing_of opening ≡ Some closing
    → IsTitleSoFar opening closing i bytes → i < length bytes → get_or bytes i 0 ≢ closing
    → is_in_destination (get_or bytes i 0) ≡ true → IsTitleSoFar opening closing (i + 1) bytes
title_plain opening closing i bytes matching is in' no_closing given =
    let b = get_or bytes i 0 in
    let plain = in_destination b given in
    let no_opening : b ≢ opening = λ e. elim (around opening closing matching) [
      | inl quotes ↦ no_closing (e ∙ quotes.0)
      | inr parens ↦ plain.no_open (e ∙ parens.0)
    ] in
    let no_ending : is_line_ending b ≡ false =
    rw (ne_eqb b 10 (λ e. absurd (omega (arith, e, plain.high))), ne_eqb b 13 (λ e. absurd (omega (arith, e, plain.high)))) refl in
    title_single opening closing i bytes (closing_mark opening closing matching) is in'
    (plain_byte bytes i in' plain.no_escape) no_closing no_opening
    (ap is_before_blank_line (drop_at_offset bytes i in')
    ∙ ap (λ x. x && is_blank (drop (i + 1) bytes)) (goes_on b (drop (i + 1) bytes) no_ending))

-- The first unit of a title that stands there, where it is a byte that does not close it.
record IsSplitAt (opening closing b : ℕ) (t : List ℕ) : Type 0 where
  inner : List (List ℕ)
  more : List (List ℕ)
  stands : stands_in_title opening closing (b ∷ []) ≡ true
  splits : units t ≡ inner ++ (closing ∷ []) ∷ more
  filled : later_lines_filled (b ∷ (concat inner ++ closing ∷ [])) ≡ true

split_single : (opening closing i n : ℕ) (bytes : List ℕ) → IsTitleSoFar opening closing i bytes → i < length bytes
    → starts_escape (drop i bytes) ≡ false → get_or bytes i 0 ≢ closing → IsTitleFrom opening closing bytes n
    → IsSplitAt opening closing (get_or bytes i 0) (drop (i + 1) bytes)
split_single opening closing i n bytes is in' plain other there =
    let rest = (is.back n there).2 in
    go rest.inner rest.more (sym (units_single_at bytes i in' plain) ∙ rest.splits) rest.each_stands rest.filled
  where
    go : (inner more : List (List ℕ))
        → (get_or bytes i 0 ∷ []) ∷ units (drop (i + 1) bytes) ≡ inner ++ (closing ∷ []) ∷ more
        → list_all (stands_in_title opening closing) inner ≡ true
        → later_lines_filled (concat inner ++ closing ∷ []) ≡ true
        → IsSplitAt opening closing (get_or bytes i 0) (drop (i + 1) bytes)
    go [] more splits made filled = absurd (other (ap (λ us. get_or (head_of us) 0 0) splits))
    go (v ∷ inner) more splits made filled =
        let same : get_or bytes i 0 ∷ [] ≡ v = ap head_of splits in record {
          inner = inner;
          more = more;
          stands = ap (stands_in_title opening closing) same
              ∙ (both_true (stands_in_title opening closing v) (list_all (stands_in_title opening closing) inner)
              made).0;
          splits = ap (drop 1) splits;
          filled = ap (λ x. later_lines_filled ((x ++ concat inner) ++ closing ∷ [])) same ∙ filled;
        }

-- the opening byte once more: no title
pub title_reopened : (opening closing i : ℕ) (bytes : List ℕ) → IsTitleSoFar opening closing i bytes
    → i < length bytes → starts_escape (drop i bytes) ≡ false → get_or bytes i 0 ≢ closing
    → get_or bytes i 0 ≡ opening → (n : ℕ) → IsTitleFrom opening closing bytes n → ⊥
title_reopened opening closing i bytes is in' plain other again n there =
    let b = get_or bytes i 0 in
    let first = split_single opening closing i n bytes is in' plain other there in
    false≢true (sym (ap (λ x. not (x || b == closing)) (eq-eqb b opening again)) ∙ first.stands)

-- a blank line after the byte: no title
pub title_blank : (opening closing i : ℕ) (bytes : List ℕ) → IsMark closing → IsTitleSoFar opening closing i bytes
    → i < length bytes → starts_escape (drop i bytes) ≡ false → get_or bytes i 0 ≢ closing
    → is_before_blank_line (drop i bytes) ≡ true → (n : ℕ) → IsTitleFrom opening closing bytes n → ⊥
title_blank opening closing i bytes mark is in' plain other before n there =
    let b = get_or bytes i 0 in
    let t = drop (i + 1) bytes in
    let first = split_single opening closing i n bytes is in' plain other there in
    let whole = joined_at t closing first.inner first.more first.splits in
    let parts = and_parts (ends_line (b ∷ t)) (is_blank t)
    (ap is_before_blank_line (sym (drop_at_offset bytes i in')) ∙ before) in
    not_filled b (concat first.inner ++ closing ∷ [])
    (sym (ends_cut b closing (concat first.inner) (concat first.more))
    ∙ (ap (λ x. ends_line (b ∷ x)) (sym whole) ∙ parts.0))
    (sym (blank_cut closing mark (concat first.inner) (concat first.more)) ∙ (ap is_blank (sym whole) ∙ parts.1))
    (omega (arith, length-append (concat first.inner) (closing ∷ []))) first.filled

-- the end of the text: no title
pub title_unclosed : (opening closing i : ℕ) (bytes : List ℕ) → IsTitleSoFar opening closing i bytes
    → length bytes ≤ i → (n : ℕ) → IsTitleFrom opening closing bytes n → ⊥
title_unclosed opening closing i bytes is past n there =
    let rest = (is.back n there).2 in
    let none : [] ≡ rest.inner ++ (closing ∷ []) ∷ rest.more = sym (ap units (drop_all i bytes past)) ∙ rest.splits in
    absurd (omega (arith, ap length none, length-append rest.inner ((closing ∷ []) ∷ rest.more)))

-- the byte that closes it
pub title_here : (opening closing i : ℕ) (bytes : List ℕ) → IsMark closing → IsTitleSoFar opening closing i bytes
    → i < length bytes → get_or bytes i 0 ≡ closing → IsTitleFrom opening closing bytes i
title_here opening closing i bytes mark is in' close =
    let plain : starts_escape (drop i bytes) ≡ false =
    plain_byte bytes i in' (λ e. mark.no_escape (sym close ∙ e)) in
    subst (IsTitleFrom opening closing bytes) (omega arith) (is.forth 0 (record {
      inner = [];
      more = units (drop (i + 1) bytes);
      splits = units_single_at bytes i in' plain ∙ ap (λ b. (b ∷ []) ∷ units (drop (i + 1) bytes)) close;
      each_stands = refl;
      n_is_length = refl;
      filled = filled_on closing [] (goes_on closing [] mark.no_ending);
    }))
