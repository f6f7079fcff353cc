-- The parts of a link's tail, by what scans of them answer.
use Rattle.std.proofs.Common.{◌≡◌, ℕ, ◌+◌, ◌-◌, ◌≤◌, ◌==◌, true, false, List, [], ◌∷◌, ◌++◌}
use Rattle.std.proofs.Common.{length, take, drop, get_or, refl, sym, ap, subst, ◌∙◌, arith, inl, inr, Option, Some, None}
use Rattle.std.specs.Prelude.{slice_range, IfSome}
use Rattle.std.specs.List.{concat}
use Rattle.std.specs.Str.{IsUtf8, IsCharBoundary}
use Rattle.std.specs.declared.ops.Range.{Range}
use Rattle.std.proofs.lemmas.Bool.{eqb-true}
use Rattle.std.proofs.lemmas.List.{length-take, length-drop, take-append-drop, drop-drop, get_or-drop}
use Rattle.std.proofs.lemmas.Str.{IsCharBoundary-after_ascii}
use Rattle.markdown_scanners_tree.specs.Bytes.{begins_with}
use Rattle.markdown_scanners_tree.specs.SomeExactly.{SomeExactly}
use Rattle.markdown_scanners_tree.specs.scanners.Escapes.{units}
use Rattle.markdown_scanners_tree.specs.scanners.links.LinkDestination.{IsLinkDestination, IsBalanced, StandsInside}
use Rattle.markdown_scanners_tree.specs.scanners.links.LinkDestination.{opening_count, closing_count}
use Rattle.markdown_scanners_tree.specs.scanners.reference_definitions.ReferenceDefinition.{IsCutAt, IsSeparatedTitle}
use Rattle.markdown_scanners_tree.specs.scanners.reference_definitions.private.GapLength.{gap_length}
use Rattle.markdown_scanners_tree.proofs.ForCallers.{IsSolid, destination_solid, gap_only, gap_there, raw_offset}
use Rattle.markdown_scanners_tree.proofs.PrefixLemmas.{from_offset}
use Rattle.markdown_inlines.specs.LinkTails.{IsClosing, IsTitledEnd, IsUntitledEnd, IsTailEnd, IsEmptyTail, IsFilledTail}
use Rattle.markdown_inlines.specs.LinkTails.{IsLinkTail}
use Rattle.markdown_inlines.specs.declared.link_tails.LinkTail.{LinkTail}

pub opened : (text : List ℕ) → begins_with (λ b. b == 40) text ≡ true → text ≡ 40 ∷ drop 1 text
opened [] begins = cc
opened (b ∷ text) begins = ap (λ x. x ∷ text) (eqb-true b 40 begins)

-- a text may be cut after it
pub cut_opened : (text : List ℕ) → begins_with (λ b. b == 40) text ≡ true → IsUtf8 text → IsCharBoundary text 1
cut_opened text begins utf8 =
    let opens = opened text begins in
    subst (IsCharBoundary text) (omega arith)
    (IsCharBoundary-after_ascii text 0 utf8 (omega (arith, ap length opens)) (omega (arith, ap (λ t. get_or t 0 0) opens)))

not_opened : (text after : List ℕ) → begins_with (λ b. b == 40) text ≡ false → text ≡ 40 ∷ after → ⊥
not_opened text after other opens = (let turned : true ≡ false = sym (ap (begins_with (λ b. b == 40)) opens) ∙ other in cc)

pub no_tail_unopened : (most : ℕ) (text : List ℕ) → begins_with (λ b. b == 40) text ≡ false → (tail : LinkTail)
    → ¬ IsLinkTail most text tail
no_tail_unopened most text other tail (inl is) = not_opened text is.after other is.opens
no_tail_unopened most text other tail (inr is) = not_opened text is.after other is.opens

-- a parenthesis that closes is no part of a gap
pub closing_solid : (rest : List ℕ) → IsSolid (41 ∷ rest)
closing_solid rest = record { no_space = refl; no_ending = refl }

closed : (text : List ℕ) → begins_with (λ b. b == 41) text ≡ true → text ≡ 41 ∷ drop 1 text
closed [] begins = cc
closed (b ∷ text) begins = ap (λ x. x ∷ text) (eqb-true b 41 begins)

-- What closes a tail stands after the gap at the front.
module _ (text : List ℕ) (gap : ℕ) (gap_is : gap ≡ gap_length text) where
  pub closing_found : begins_with (λ b. b == 41) (take (length text - gap) (drop gap text)) ≡ true → IsClosing text (gap + 1)
  closing_found begins =
      let rest : drop gap text ≡ 41 ∷ drop 1 (drop gap text) =
      closed (drop gap text) (ap (begins_with (λ b. b == 41)) (sym (from_offset text gap)) ∙ begins) in
      record {
        gap = take gap text;
        rest = drop 1 (drop gap text);
        parts = sym (take-append-drop gap text) ∙ ap (λ t. take gap text ++ t) rest;
        is_gap = gap_there text gap gap_is;
        counted = omega (arith, length-take gap text, ap length rest, length-drop gap text);
      }

  pub closing_only : (n : ℕ) → (is : IsClosing text n) → (n ≡ gap + 1) × (drop gap text ≡ 41 ∷ is.rest)
  closing_only n is =
      let only = gap_only text is.gap (41 ∷ is.rest) is.parts is.is_gap (closing_solid is.rest) in
      (omega (arith, is.counted, only.0, gap_is), ap (λ k. drop k text) gap_is ∙ sym only.1)

  pub no_closing : begins_with (λ b. b == 41) (take (length text - gap) (drop gap text)) ≡ false → (n : ℕ) → ¬ IsClosing text n
  no_closing other n is =
      let turned : true ≡ false =
      sym (ap (begins_with (λ b. b == 41)) (closing_only n is).1) ∙ ap (begins_with (λ b. b == 41)) (sym (from_offset text gap)) ∙ other in
      cc

  pub cut_closing : begins_with (λ b. b == 41) (take (length text - gap) (drop gap text)) ≡ true → IsUtf8 text
      → IsCharBoundary text (gap + 1)
  cut_closing begins utf8 =
      let rest : drop gap text ≡ 41 ∷ drop 1 (drop gap text) =
      closed (drop gap text) (ap (begins_with (λ b. b == 41)) (sym (from_offset text gap)) ∙ begins) in
      let byte : get_or text gap 0 ≡ 41 =
      ap (λ k. get_or text k 0) (omega arith) ∙ sym (get_or-drop gap text 0 0) ∙ ap (λ t. get_or t 0 0) rest in
      IsCharBoundary-after_ascii text gap utf8 (omega (arith, ap length rest, length-drop gap text)) (omega (arith, byte))

-- a destination that has a byte does not begin with it
unmatched : (most : ℕ) (rest : List ℕ) (inner more : List (List ℕ)) → units (41 ∷ rest) ≡ inner ++ more
    → 1 ≤ length (concat inner) → ¬ IsBalanced most 0 inner
unmatched most rest [] more splits some balanced = absurd (omega (arith, some))
unmatched most [] (u ∷ us) more splits some balanced =
    let first : u ≡ 41 ∷ [] = cc in
    absurd (omega (
      arith,
      subst (λ v. closing_count (take 1 (v ∷ us)) ≤ opening_count (take 1 (v ∷ us))) first
          (omega (arith, balanced.never_below 1 (omega arith))),
    ))
unmatched most (b ∷ rest) (u ∷ us) more splits some balanced =
    let first : u ≡ 41 ∷ [] = cc in
    absurd (omega (
      arith,
      subst (λ v. closing_count (take 1 (v ∷ us)) ≤ opening_count (take 1 (v ∷ us))) first
          (omega (arith, balanced.never_below 1 (omega arith))),
    ))

pub no_destination : (most : ℕ) (rest : List ℕ) (taken : ℕ) (raw : List ℕ) → IsLinkDestination most (41 ∷ rest) taken raw → 1 ≤ taken → ⊥
no_destination most rest taken raw (inl is) some = absurd (omega (arith, ap (λ t. get_or t 0 0) is.opens))
no_destination most rest taken raw (inr is) some =
    unmatched most rest is.bare.inner is.bare.more is.bare.splits (omega (arith, some, is.bare.n_is_length)) is.bare.balanced

-- A destination after a gap, where the tail is opened.
module _ (most : ℕ) (bytes : List ℕ) (gap : ℕ) (opens : bytes ≡ 40 ∷ drop 1 bytes)
    (gap_is : gap ≡ gap_length (take (length bytes - 1) (drop 1 bytes))) where
  -- what a scan of a destination is given
  abbrev from_destination : List ℕ
  from_destination = take (length bytes - (1 + gap)) (drop (1 + gap) bytes)

  gap_length_is : gap ≡ gap_length (drop 1 bytes)
  gap_length_is = gap_is ∙ ap gap_length (from_offset bytes 1)

  rest_is : from_destination ≡ drop gap (drop 1 bytes)
  rest_is = from_offset bytes (1 + gap) ∙ sym (drop-drop gap 1 bytes)

  at_destination : (tail : LinkTail) → (is : IsFilledTail most bytes tail) → (length is.gap ≡ gap) × (is.rest ≡ from_destination)
  at_destination tail is =
      let after : is.after ≡ drop 1 bytes = ap (drop 1) (sym is.opens ∙ opens) in
      let only =
      gap_only (drop 1 bytes) is.gap is.rest (sym after ∙ is.parts) is.is_gap
      (destination_solid most is.rest is.taken is.raw is.is_destination is.some) in
      (only.0 ∙ sym gap_length_is, only.1 ∙ ap (λ k. drop k (drop 1 bytes)) (sym gap_length_is) ∙ sym rest_is)

  pub no_filled : ((n : ℕ) (raw : List ℕ) → IsLinkDestination most from_destination n raw → 1 ≤ n → ⊥)
      → (tail : LinkTail) → ¬ IsFilledTail most bytes tail
  no_filled none tail is =
      none is.taken is.raw (subst (λ t. IsLinkDestination most t is.taken is.raw) (at_destination tail is).1 is.is_destination) is.some

  pub no_filled_end : (taken : ℕ) → ((n : ℕ) (raw : List ℕ) → IsLinkDestination most from_destination n raw → n ≡ taken)
      → ((title : Option (Range ℕ)) (len : ℕ) → ¬ IsTailEnd bytes (1 + gap + taken) title len)
      → (tail : LinkTail) → ¬ IsFilledTail most bytes tail
  no_filled_end taken only none tail is =
      let at = at_destination tail is in
      let same = only is.taken is.raw (subst (λ t. IsLinkDestination most t is.taken is.raw) at.1 is.is_destination) in
      let offset : 1 + length is.gap + is.taken ≡ 1 + gap + taken = omega (arith, at.0, same) in
      none tail.title tail.len (subst (λ p. IsTailEnd bytes p tail.title tail.len) offset is.ends)

  pub filled_found : (taken start end : ℕ) (title : Option (Range ℕ)) (len : ℕ)
      → IsLinkDestination most from_destination taken (slice_range from_destination start end)
      → StandsInside taken start end → taken ≤ length from_destination → 1 ≤ taken
      → gap ≤ length (take (length bytes - 1) (drop 1 bytes)) → IsTailEnd bytes (1 + gap + taken) title len
      → IsFilledTail most bytes (record {
        destination = record { start = 1 + gap + start; end = 1 + gap + end };
        title = title;
        len = len;
      })
  filled_found taken start end title len is inside within some gap_within ends =
      let offset = raw_offset most from_destination taken start end is inside within some in
      let counted : length (take gap (drop 1 bytes)) ≡ gap =
      omega (arith, length-take gap (drop 1 bytes), gap_within, ap length (from_offset bytes 1)) in
      record {
        after = drop 1 bytes;
        gap = take gap (drop 1 bytes);
        rest = from_destination;
        taken = taken;
        raw = slice_range from_destination start end;
        opens = opens;
        parts = sym (take-append-drop gap (drop 1 bytes)) ∙ ap (λ t. take gap (drop 1 bytes) ++ t) (sym rest_is);
        is_gap = gap_there (drop 1 bytes) gap gap_length_is;
        is_destination = is;
        some = some;
        destination_begins = omega (arith, counted, offset.0);
        destination_ends = omega (arith, counted, offset.1);
        ends = subst (λ p. IsTailEnd bytes p title len) (omega (arith, counted)) ends;
      }

-- what closes the tail after a title
pub titled_end : (bytes : List ℕ) (offset : ℕ) (title : Range ℕ) (closing : ℕ) → IsSeparatedTitle bytes offset title
    → IsClosing (take (length bytes - (title.end + 1)) (drop (title.end + 1) bytes)) closing
    → IsTitledEnd bytes offset title (title.end + 1 + closing)
titled_end bytes offset title closing is closes = record {
  closing = closing;
  is_titled = is;
  closes = subst (λ t. IsClosing t closing) (from_offset bytes (title.end + 1)) closes;
  len_is = refl;
}

pub not_closed : (bytes : List ℕ) (offset : ℕ) (title : Range ℕ)
    → ((other : Range ℕ) → IsSeparatedTitle bytes offset other → other ≡ title)
    → ((n : ℕ) → ¬ IsClosing (take (length bytes - (title.end + 1)) (drop (title.end + 1) bytes)) n)
    → (r : Range ℕ × ℕ) → ¬ IsTitledEnd bytes offset r.0 r.1
not_closed bytes offset title only none r is =
    let here : drop (r.0.end + 1) bytes ≡ take (length bytes - (title.end + 1)) (drop (title.end + 1) bytes) =
    ap (λ (t : Range ℕ). drop (t.end + 1) bytes) (only r.0 is.is_titled) ∙ sym (from_offset bytes (title.end + 1)) in
    none is.closing (subst (λ t. IsClosing t is.closing) here is.closes)

-- no title, and what closes the tail at an offset
pub untitled_end : (bytes : List ℕ) (offset closing : ℕ) → IsClosing (take (length bytes - offset) (drop offset bytes)) closing
    → IsUntitledEnd bytes offset (offset + closing)
untitled_end bytes offset closing closes = record {
  closing = closing;
  closes = subst (λ t. IsClosing t closing) (from_offset bytes offset) closes;
  len_is = refl;
}

pub no_end : (bytes : List ℕ) (offset : ℕ) → ((n : ℕ) → ¬ IsClosing (take (length bytes - offset) (drop offset bytes)) n)
    → ((r : Range ℕ × ℕ) → ¬ IsTitledEnd bytes offset r.0 r.1) → (title : Option (Range ℕ)) (len : ℕ)
    → ¬ IsTailEnd bytes offset title len
no_end bytes offset unclosed untitled None len is =
    unclosed is.closing (subst (λ t. IsClosing t is.closing) (sym (from_offset bytes offset)) is.closes)
no_end bytes offset unclosed untitled (Some title) len is = untitled (title, len) is

-- a title that may be cut out, where a text may be cut before it
pub title_cut : (bytes : List ℕ) (offset : ℕ) (title : Option (Range ℕ))
    → IfSome title (λ t. IsUtf8 bytes → IsCharBoundary bytes offset → IsCutAt bytes t)
    → (IsUtf8 bytes → IsCharBoundary bytes offset) → IfSome title (λ t. IsUtf8 bytes → IsCutAt bytes t)
title_cut bytes offset None cut at = tt
title_cut bytes offset (Some title) cut at = λ utf8. cut utf8 (at utf8)

-- An empty tail
pub empty_found : (bytes : List ℕ) (closing : ℕ) → bytes ≡ 40 ∷ drop 1 bytes
    → IsClosing (take (length bytes - 1) (drop 1 bytes)) closing
    → IsEmptyTail bytes (record { destination = record { start = closing; end = closing }; title = None; len = closing + 1 })
empty_found bytes closing opens closes = record {
  after = drop 1 bytes;
  closing = closing;
  opens = opens;
  closes = subst (λ t. IsClosing t closing) (from_offset bytes 1) closes;
  untitled = refl;
  len_is = refl;
  destination_begins = refl;
  destination_ends = refl;
}

-- is none where nothing closes it.
pub no_empty : (bytes : List ℕ) → bytes ≡ 40 ∷ drop 1 bytes
    → ((n : ℕ) → ¬ IsClosing (take (length bytes - 1) (drop 1 bytes)) n) → (tail : LinkTail) → ¬ IsEmptyTail bytes tail
no_empty bytes opens none tail is =
    let after : is.after ≡ take (length bytes - 1) (drop 1 bytes) = ap (drop 1) (sym is.opens ∙ opens) ∙ sym (from_offset bytes 1) in
    none is.closing (subst (λ t. IsClosing t is.closing) after is.closes)

-- So a tail is what has a destination, or none.
pub tail_or_none : (most : ℕ) (bytes : List ℕ) → bytes ≡ 40 ∷ drop 1 bytes
    → ((n : ℕ) → ¬ IsClosing (take (length bytes - 1) (drop 1 bytes)) n) → (answer : Option LinkTail)
    → SomeExactly (IsFilledTail most bytes) answer → SomeExactly (IsLinkTail most bytes) answer
tail_or_none most bytes opens unclosed None none = λ tail is. elim is [
  | inl empty ↦ no_empty bytes opens unclosed tail empty
  | inr filled ↦ none tail filled
]
tail_or_none most bytes opens unclosed (Some tail) found = inr found
