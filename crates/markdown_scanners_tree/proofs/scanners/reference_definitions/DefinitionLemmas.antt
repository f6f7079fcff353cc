-- The parts of a definition, by what scans of them answer.
use Rattle.std.proofs.Common.{◌≡◌, ◌≢◌, ℕ, zero, suc, ◌+◌, ◌-◌, ◌≤◌, ◌==◌, true, false, List, [], ◌∷◌, ◌++◌}
use Rattle.std.proofs.Common.{length, take, drop, get_or, refl, sym, ap, subst, ◌∙◌, arith, inl, inr, codes, Option, Some, None}
use Rattle.std.specs.Prelude.{slice_range, IfSome}
use Rattle.std.specs.Str.{IsUtf8, IsCharBoundary}
use Rattle.std.specs.declared.ops.Range.{Range}
use Rattle.std.proofs.lemmas.Bool.{cases_Bool, eqb-true}
use Rattle.std.proofs.lemmas.List.{length-take, length-drop, take-append-drop, drop-drop, get_or-drop}
use Rattle.markdown_scanners_tree.specs.Bytes.{begins_with}
use Rattle.markdown_scanners_tree.specs.linklabel.Length.{IsLabelLength}
use Rattle.markdown_scanners_tree.specs.scanners.html_kinds.HtmlKinds.{begins_with_text}
use Rattle.markdown_scanners_tree.specs.scanners.links.LinkDestination.{IsLinkDestination, StandsInside}
use Rattle.markdown_scanners_tree.specs.scanners.titles.LinkTitle.{IsLinkTitle}
use Rattle.markdown_scanners_tree.specs.scanners.reference_definitions.ReferenceDefinition.{IsRestOfLine, IsLabelWithColon, bracket_count, IsTarget}
use Rattle.markdown_scanners_tree.specs.scanners.reference_definitions.ReferenceDefinition.{IsSeparatedTitle, IsTitleLine, IsEnd, IsUntitled, IsCutAt}
use Rattle.markdown_scanners_tree.specs.scanners.reference_definitions.private.GapLength.{gap_length}
use Rattle.markdown_scanners_tree.proofs.PrefixLemmas.{both_true, from_offset}
use Rattle.markdown_scanners_tree.proofs.scanners.links.LinkLemmas.{cut_before, cut_after}
use Rattle.markdown_scanners_tree.proofs.scanners.reference_definitions.GapLemmas.{gap_only, gap_there, destination_solid, title_solid}
use Rattle.markdown_scanners_tree.proofs.scanners.reference_definitions.OneDefinition.{one_label_with_colon}

pub after_bracket : (bytes inside : List ℕ) → begins_with_text (codes "[") bytes ≡ true → inside ≡ drop 1 bytes
    → bytes ≡ 91 ∷ inside
after_bracket [] inside opened is = cc
after_bracket (b ∷ bs) inside opened is =
    let first : b ≡ 91 = eqb-true b 91 (both_true _ _ opened).0 in
    ap (λ z. z ∷ bs) first ∙ ap (λ z. 91 ∷ z) (sym is)

-- a byte at the front
begun_by : (b : ℕ) (text : List ℕ) → begins_with (λ c. c == b) text ≡ true → text ≡ b ∷ drop 1 text
begun_by b [] first = cc
begun_by b (c ∷ text) first = ap (λ x. x ∷ text) (eqb-true c b first)

-- a list after one more element
get_or-after : (x : ℕ) (xs : List ℕ) (n : ℕ) → 1 ≤ n → get_or (x ∷ xs) n 0 ≡ get_or xs (n - 1) 0
get_or-after x xs zero some = absurd (omega (arith, some))
get_or-after x xs (suc n) some = (let e : n ≡ suc n - 1 = omega arith in ap (λ k. get_or xs k 0) e)

-- A label with its colon, where the opening bracket stands.
module _ (bytes inside : List ℕ) (opens : bytes ≡ 91 ∷ inside) where
  inside_is : (n : ℕ) → (is : IsLabelWithColon bytes n) → is.inside ≡ inside
  inside_is n is = ap (drop 1) (sym is.opens ∙ opens)

  pub no_label : ((n : ℕ) → ¬ IsLabelLength inside n) → (n : ℕ) → ¬ IsLabelWithColon bytes n
  no_label none n is =
      none is.label_length (subst (λ t. IsLabelLength t is.label_length) (inside_is n is) is.is_label)

  module _ (n : ℕ) where
    pub label_with_colon : IsLabelLength inside n
        → begins_with (λ b. b == 58) (take (length inside - n) (drop n inside)) ≡ true → IsLabelWithColon bytes (n + 2)
    label_with_colon is_label colon = record {
      inside = inside;
      rest = drop 1 (drop n inside);
      label_length = n;
      opens = opens;
      is_label = is_label;
      colon_follows = begun_by 58 (drop n inside) (ap (begins_with (λ b. b == 58)) (sym (from_offset inside n)) ∙ colon);
      counted = refl;
    }

    pub no_colon : ((k : ℕ) → IsLabelLength inside k → k ≡ n)
        → begins_with (λ b. b == 58) (take (length inside - n) (drop n inside)) ≡ false
        → (a : ℕ) → ¬ IsLabelWithColon bytes a
    no_colon only other a is =
        let same = only is.label_length (subst (λ t. IsLabelLength t is.label_length) (inside_is a is) is.is_label) in
        let here : drop n inside ≡ 58 ∷ is.rest =
        ap (λ k. drop k inside) (sym same) ∙ (ap (drop is.label_length) (sym (inside_is a is)) ∙ is.colon_follows) in
        let turned : true ≡ false =
        sym (ap (begins_with (λ b. b == 58)) here) ∙ (ap (begins_with (λ b. b == 58)) (sym (from_offset inside n)) ∙ other) in
        cc

    -- the cuts after the opening bracket, before the closing one, and after the colon
    pub cut_opened : IsUtf8 bytes → IsCharBoundary bytes 1
    cut_opened utf8 =
        cut_after bytes 0 1 (omega arith) utf8 (omega (arith, ap length opens)) (omega (arith, ap (λ t. get_or t 0 0) opens))

    pub cut_closed : 1 ≤ n → n ≤ length inside → get_or inside (n - 1) 0 ≡ 93 → IsCharBoundary bytes (n + 2 - 2)
    cut_closed some within closed =
        let here : get_or bytes n 0 ≡ 93 = ap (λ t. get_or t n 0) opens ∙ (get_or-after 91 inside n some ∙ closed) in
        cut_before bytes n (n + 2 - 2) (omega arith) (omega (arith, within, ap length opens)) (omega (arith, here))

    pub cut_named : begins_with (λ b. b == 58) (take (length inside - n) (drop n inside)) ≡ true → IsUtf8 bytes
        → IsCharBoundary bytes (n + 2)
    cut_named colon utf8 =
        let here : drop n inside ≡ 58 ∷ drop 1 (drop n inside) =
        begun_by 58 (drop n inside) (ap (begins_with (λ b. b == 58)) (sym (from_offset inside n)) ∙ colon) in
        let byte : get_or bytes (suc n) 0 ≡ 58 =
        ap (λ t. get_or t (suc n) 0) opens
        ∙ (ap (λ k. get_or inside k 0) (omega arith) ∙ (sym (get_or-drop n inside 0 0) ∙ ap (λ t. get_or t 0 0) here)) in
        cut_after bytes (suc n) (n + 2) (omega arith) utf8
        (omega (arith, ap length opens, ap length here, length-drop n inside)) (omega (arith, byte))

unbracketed : (text : List ℕ) → ((after : List ℕ) → text ≢ 60 ∷ after) → bracket_count text ≡ 0
unbracketed [] other = refl
unbracketed (b ∷ text) other = elim (cases_Bool (b == 60)) [
  | inl is ↦ absurd (other text (ap (λ x. x ∷ text) (eqb-true b 60 is)))
  | inr no_bracket ↦ rw no_bracket refl
]

-- where a destination's own bytes stand among those that it takes
pub raw_offset : (most : ℕ) (text : List ℕ) (taken start end : ℕ)
    → IsLinkDestination most text taken (slice_range text start end) → StandsInside taken start end
    → taken ≤ length text → 1 ≤ taken → (start ≡ bracket_count text) × (end + bracket_count text ≡ taken)
raw_offset most text taken start end (inl is) (inl whole) within some =
    absurd (omega (
      arith,
      whole.0,
      whole.1,
      within,
      some,
      is.with_brackets,
      ap length is.slice,
      length-take (end - start) (drop start text),
      length-drop start text,
      length-take (taken - 1 - 1) (drop 1 text),
      length-drop 1 text,
    ))
raw_offset most text taken start end (inl is) (inr inner) within some =
    let bracket : bracket_count text ≡ 1 = ap bracket_count is.opens in
    (omega (arith, inner.0, bracket), omega (arith, inner.1, bracket))
raw_offset most text taken start end (inr is) (inl whole) within some =
    let none = unbracketed text is.unpointed in
    (omega (arith, whole.0, none), omega (arith, whole.1, none))
raw_offset most text taken start end (inr is) (inr inner) within some =
    absurd (omega (
      arith,
      inner.0,
      inner.1,
      within,
      some,
      ap length is.slice,
      length-take (end - start) (drop start text),
      length-drop start text,
      length-take taken text,
    ))

-- What a definition begins with, after a label with its colon.
module _ (most : ℕ) (bytes : List ℕ) (named gap : ℕ) (is_named : IsLabelWithColon bytes named)
    (gap_is : gap ≡ gap_length (take (length bytes - named) (drop named bytes))) where
  -- what a scan of a destination is given
  abbrev from_destination : List ℕ
  from_destination = take (length bytes - (named + gap)) (drop (named + gap) bytes)

  gap_length_is : gap ≡ gap_length (drop named bytes)
  gap_length_is = gap_is ∙ ap gap_length (from_offset bytes named)

  rest_is : from_destination ≡ drop gap (drop named bytes)
  rest_is = from_offset bytes (named + gap) ∙ sym (drop-drop gap named bytes)

  pub no_target : ((n : ℕ) (raw : List ℕ) → IsLinkDestination most from_destination n raw → 1 ≤ n → ⊥)
      → (label destination : Range ℕ) (offset : ℕ) → ¬ IsTarget most bytes label destination offset
  no_target none label destination offset is =
      let same = one_label_with_colon bytes is.named named is.is_named is_named in
      let only =
      gap_only (drop named bytes) is.gap is.rest (ap (λ n. drop n bytes) (sym same) ∙ is.parts) is.is_gap
      (destination_solid most is.rest is.taken is.raw is.is_destination is.some) in
      let here : is.rest ≡ from_destination =
      only.1 ∙ (ap (λ k. drop k (drop named bytes)) (sym gap_length_is) ∙ sym rest_is) in
      none is.taken is.raw (subst (λ t. IsLinkDestination most t is.taken is.raw) here is.is_destination) is.some

  pub target_found : (taken start end : ℕ) → IsLinkDestination most from_destination taken (slice_range from_destination start end)
      → StandsInside taken start end → taken ≤ length from_destination → 1 ≤ taken
      → gap ≤ length (take (length bytes - named) (drop named bytes)) → 3 ≤ named
      → IsTarget most bytes (record { start = 1; end = named - 2 })
      (record { start = named + gap + start; end = named + gap + end }) (named + gap + taken)
  target_found taken start end is inside within some gap_within long =
      let offset = raw_offset most from_destination taken start end is inside within some in
      let counted : length (take gap (drop named bytes)) ≡ gap =
      omega (arith, length-take gap (drop named bytes), gap_within, ap length (from_offset bytes named)) in
      record {
        named = named;
        gap = take gap (drop named bytes);
        rest = from_destination;
        taken = taken;
        raw = slice_range from_destination start end;
        is_named = is_named;
        parts = sym (take-append-drop gap (drop named bytes)) ∙ ap (λ t. take gap (drop named bytes) ++ t) (sym rest_is);
        is_gap = gap_there (drop named bytes) gap gap_length_is;
        is_destination = is;
        some = some;
        offset_is = omega (arith, counted);
        label_begins = refl;
        label_ends = omega (arith, long);
        destination_begins = omega (arith, counted, offset.0);
        destination_ends = omega (arith, offset.1);
      }

-- A title after the gap at an offset.
module _ (bytes : List ℕ) (offset gap : ℕ) (gap_is : gap ≡ gap_length (take (length bytes - offset) (drop offset bytes))) where
  -- what a scan of a title is given
  abbrev from_title : List ℕ
  from_title = take (length bytes - (offset + gap)) (drop (offset + gap) bytes)

  gap_length_is' : gap ≡ gap_length (drop offset bytes)
  gap_length_is' = gap_is ∙ ap gap_length (from_offset bytes offset)

  title_rest_is : from_title ≡ drop gap (drop offset bytes)
  title_rest_is = from_offset bytes (offset + gap) ∙ sym (drop-drop gap offset bytes)

  at_title : (title : Range ℕ) → (is : IsSeparatedTitle bytes offset title) → (length is.gap ≡ gap) × (is.rest ≡ from_title)
  at_title title is =
      let only = gap_only (drop offset bytes) is.gap is.rest is.parts is.is_gap (title_solid is.rest is.taken is.is_title) in
      (only.0 ∙ sym gap_length_is', only.1 ∙ (ap (λ k. drop k (drop offset bytes)) (sym gap_length_is') ∙ sym title_rest_is))

  pub no_gap : gap ≡ 0 → (title : Range ℕ) → ¬ IsSeparatedTitle bytes offset title
  no_gap none title is = absurd (omega (arith, none, (at_title title is).0, is.separated))

  pub no_title_there : ((n : ℕ) → ¬ IsLinkTitle from_title n) → (title : Range ℕ) → ¬ IsSeparatedTitle bytes offset title
  no_title_there none title is =
      none is.taken (subst (λ t. IsLinkTitle t is.taken) (at_title title is).1 is.is_title)

  pub title_found : (taken : ℕ) → 1 ≤ gap → gap ≤ length (take (length bytes - offset) (drop offset bytes))
      → IsLinkTitle from_title taken → 2 ≤ taken
      → IsSeparatedTitle bytes offset (record { start = offset + gap + 1; end = offset + gap + taken - 1 })
  title_found taken some within is long =
      let counted : length (take gap (drop offset bytes)) ≡ gap =
      omega (arith, length-take gap (drop offset bytes), within, ap length (from_offset bytes offset)) in
      record {
        gap = take gap (drop offset bytes);
        rest = from_title;
        taken = taken;
        parts = sym (take-append-drop gap (drop offset bytes)) ∙ ap (λ t. take gap (drop offset bytes) ++ t) (sym title_rest_is);
        is_gap = gap_there (drop offset bytes) gap gap_length_is';
        separated = omega (arith, some, counted);
        is_title = is;
        title_begins = omega (arith, counted);
        title_ends = omega (arith, counted, long);
      }

-- the rest of the line after a title
pub title_line : (bytes : List ℕ) (offset : ℕ) (title : Range ℕ) (ending : ℕ) → IsSeparatedTitle bytes offset title
    → IsRestOfLine (take (length bytes - (title.end + 1)) (drop (title.end + 1) bytes)) ending
    → IsTitleLine bytes offset title (title.end + 1 + ending)
title_line bytes offset title ending is further = record {
  ending = ending;
  is_titled = is;
  nothing_further = subst (λ t. IsRestOfLine t ending) (from_offset bytes (title.end + 1)) further;
  len_is = refl;
}

pub something_further : (bytes : List ℕ) (offset : ℕ) (title : Range ℕ)
    → ((other : Range ℕ) → IsSeparatedTitle bytes offset other → other ≡ title)
    → ((n : ℕ) → ¬ IsRestOfLine (take (length bytes - (title.end + 1)) (drop (title.end + 1) bytes)) n)
    → (r : Range ℕ × ℕ) → ¬ IsTitleLine bytes offset r.0 r.1
something_further bytes offset title only none r is =
    let here : drop (r.0.end + 1) bytes ≡ take (length bytes - (title.end + 1)) (drop (title.end + 1) bytes) =
    ap (λ (t : Range ℕ). drop (t.end + 1) bytes) (only r.0 is.is_titled) ∙ sym (from_offset bytes (title.end + 1)) in
    none is.ending (subst (λ t. IsRestOfLine t is.ending) here is.nothing_further)

-- no title, and the rest of a line from an offset on
pub untitled : (bytes : List ℕ) (offset ending : ℕ) → ((r : Range ℕ × ℕ) → ¬ IsTitleLine bytes offset r.0 r.1)
    → IsRestOfLine (take (length bytes - offset) (drop offset bytes)) ending → IsUntitled bytes offset (offset + ending)
untitled bytes offset ending none further = record {
  ending = ending;
  nothing_further = subst (λ t. IsRestOfLine t ending) (from_offset bytes offset) further;
  no_title = λ title end is. none (title, end) is;
  len_is = refl;
}

pub no_end : (bytes : List ℕ) (offset : ℕ) → ((r : Range ℕ × ℕ) → ¬ IsTitleLine bytes offset r.0 r.1)
    → ((n : ℕ) → ¬ IsRestOfLine (take (length bytes - offset) (drop offset bytes)) n) → (title : Option (Range ℕ)) (len : ℕ)
    → ¬ IsEnd bytes offset title len
no_end bytes offset none nothing None len is =
    nothing is.ending (subst (λ t. IsRestOfLine t is.ending) (sym (from_offset bytes offset)) is.nothing_further)
no_end bytes offset none nothing (Some title) len is = none (title, len) is

-- a title that may be cut out, where a text may be cut before it
pub title_cut : (bytes : List ℕ) (offset : ℕ) (title : Option (Range ℕ))
    → IfSome title (λ t. IsUtf8 bytes → IsCharBoundary bytes offset → IsCutAt bytes t)
    → (IsUtf8 bytes → IsCharBoundary bytes offset) → IfSome title (λ t. IsUtf8 bytes → IsCutAt bytes t)
title_cut bytes offset None cut at = tt
title_cut bytes offset (Some title) cut at = λ utf8. cut utf8 (at utf8)
