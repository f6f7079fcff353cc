-- A link label ends with its right bracket.
use Rattle.std.proofs.Common.{ℕ, Bool, List, [], ◌∷◌, ◌≡◌, ◌<◌, ◌≤◌, ◌+◌, ◌-◌, ◌==◌, ◌&&◌, ◌∙◌, length, drop}
use Rattle.std.proofs.Common.{inl, inr, refl, sym, ap, subst, arith, get_or, eqb-true, Option, Some, None}
use Rattle.std.specs.List.{AllByRecursion}
use Rattle.std.proofs.lemmas.Bool.{cases_Bool}
use Rattle.std.proofs.lemmas.Bool.Decides.{leb_tells}
use Rattle.std.proofs.lemmas.List.{drop-drop, get_or-drop, get_or_past}
use Rattle.markdown_scanners_tree.specs.Ascii.{backslash, carriage_return, left_bracket, line_feed, right_bracket}
use Rattle.markdown_scanners_tree.specs.Bytes.{is_line_ending, is_punctuation}
use Rattle.markdown_scanners_tree.specs.Kept.{KeptByte, kept_from, kept_head, kept_line, kept_return, kept_text, line_len}
use Rattle.markdown_scanners_tree.specs.linklabel.Label.{Bracketed, IsLabel, Label, bracketed, kept_units, label_between, is_label_content, preceded}
use Rattle.markdown_events.proofs.found.InlineFacts.{all_both}

module _ (whole : List ℕ) where
  -- a kept byte stands at its offset
  abbrev Stands : KeptByte → Type 0
  Stands k = get_or whole k.offset 0 ≡ k.byte

  here : (offset b : ℕ) (bs : List ℕ) → drop offset whole ≡ b ∷ bs → get_or whole offset 0 ≡ b
  here offset b bs at =
      ap (λ n. get_or whole n 0) (let same : offset ≡ offset + 0 = omega arith in same) ∙ sym (get_or-drop offset whole 0 0)
      ∙ ap (λ (t : List ℕ). get_or t 0 0) at

  next : (offset b : ℕ) (bs : List ℕ) → drop offset whole ≡ b ∷ bs → drop (offset + 1) whole ≡ bs
  next offset b bs at = sym (drop-drop 1 offset whole) ∙ ap (drop 1) at

  head_stands : (offset : ℕ) (source : List ℕ) → drop offset whole ≡ source → AllByRecursion Stands (kept_head offset source)
  head_stands offset [] at = tt
  head_stands offset (b ∷ bs) at = elim (cases_Bool (is_line_ending b)) [
    | inl ends ↦ rw ends tt
    | inr goes ↦ rw goes (here offset b bs at, head_stands (offset + 1) bs (next offset b bs at))
  ]

  return_stands : (offset : ℕ) (bs : List ℕ) → drop offset whole ≡ carriage_return ∷ bs → AllByRecursion Stands (kept_return offset bs)
  return_stands offset [] at = (here offset carriage_return [] at, tt)
  return_stands offset (c ∷ bs) at = elim (cases_Bool (c == line_feed)) [
    | inl feed ↦ rw feed (
      here offset carriage_return (c ∷ bs) at,
      (here (offset + 1) c bs (next offset carriage_return (c ∷ bs) at) ∙ eqb-true c line_feed feed, tt),
    )
    | inr other ↦ rw other (here offset carriage_return (c ∷ bs) at, tt)
  ]

  line_stands : (offset : ℕ) (source : List ℕ) → drop offset whole ≡ source → AllByRecursion Stands (kept_line offset source)
  line_stands offset [] at = tt
  line_stands offset (b ∷ bs) at = elim (cases_Bool (b == line_feed)) [
    | inl feed ↦ rw feed (here offset b bs at, tt)
    | inr other ↦ elim (cases_Bool (b == carriage_return)) [
      | inl returns ↦ rw (other, returns)
          (return_stands offset bs (at ∙ ap (λ c. c ∷ bs) (eqb-true b carriage_return returns)))
      | inr plain ↦ rw (other, plain) (here offset b bs at, line_stands (offset + 1) bs (next offset b bs at))
    ]
  ]

  from_stands : (offset : ℕ) (source : List ℕ) (skips : List ℕ) → drop offset whole ≡ source → AllByRecursion Stands (kept_from offset source skips)
  from_stands offset source [] at = head_stands offset source at
  from_stands offset source (skip ∷ skips) at =
      let n = line_len source + skip in
      all_both Stands (kept_line offset source) (kept_from (offset + n) (drop n source) skips) (line_stands offset source at)
      (from_stands (offset + n) (drop n source) skips (sym (drop-drop n offset whole) ∙ ap (drop n) at))

  -- the bracket that closes stands at its offset
  closes_after : (front : List KeptByte) (found : Option Bracketed) (b : Bracketed) → preceded front found ≡ Some b
      → ((c : Bracketed) → found ≡ Some c → get_or whole c.close 0 ≡ right_bracket) → get_or whole b.close 0 ≡ right_bracket
  closes_after front None b h there = cc
  closes_after front (Some c) b h there =
      let close : c.close ≡ b.close = cc in
      ap (λ n. get_or whole n 0) (sym close) ∙ there c refl

  closes_byte : (k : KeptByte) (units : List (List KeptByte)) (b : Bracketed) → Stands k → bracketed ((k ∷ []) ∷ units) ≡ Some b
      → ((c : Bracketed) → bracketed units ≡ Some c → get_or whole c.close 0 ≡ right_bracket) → get_or whole b.close 0 ≡ right_bracket
  closes_byte k units b stands h there = elim (cases_Bool (k.byte == right_bracket)) [
    | inl closes ↦
        (let found = rw closes at h in
        let close : k.offset ≡ b.close = cc in
        ap (λ n. get_or whole n 0) (sym close) ∙ (stands ∙ eqb-true k.byte right_bracket closes))
    | inr unclosed ↦ elim (cases_Bool (k.byte == left_bracket)) [
      | inl opens ↦ absurd (let found = rw (unclosed, opens) at h in cc)
      | inr unopened ↦ closes_after (k ∷ []) (bracketed units) b (rw (unclosed, unopened) at h) there
    ]
  ]

  closes_at : (ks : List KeptByte) (b : Bracketed) → AllByRecursion Stands ks → bracketed (kept_units ks) ≡ Some b
      → get_or whole b.close 0 ≡ right_bracket
  closes_at [] b all h = cc
  closes_at (k ∷ []) b all h = closes_byte k [] b all.0 h (λ c none. cc)
  closes_at (k ∷ l ∷ ks) b all h = elim (cases_Bool (k.byte == backslash && is_punctuation l.byte)) [
    | inl escapes ↦ closes_after (k ∷ l ∷ []) (bracketed (kept_units ks)) b (rw escapes at h) (λ c found. closes_at ks c all.1.1 found)
    | inr single ↦ closes_byte k (kept_units (l ∷ ks)) b all.0 (rw single at h) (λ c found. closes_at (l ∷ ks) c all.1 found)
  ]

-- the last byte of so many is ASCII
pub record EndsLow (text : List ℕ) (n : ℕ) : Type 0 where
  pub some : 1 ≤ n
  pub within : n ≤ length text
  pub low : get_or text (n - 1) 0 < 128

pub low_byte : (text : List ℕ) (offset b : ℕ) → get_or text offset 0 ≡ b → 0 < b → b < 128 → EndsLow text (offset + 1)
low_byte text offset b is some low =
    let same : offset + 1 - 1 ≡ offset = omega arith in record {
      some = omega arith;
      within = elim (leb_tells (length text) offset) [
        | inl past ↦ absurd (omega (arith, is, some, get_or_past text offset 0 past.1))
        | inr inside ↦ omega (arith, inside.1)
      ];
      low = omega (arith, ap (λ n. get_or text n 0) same, is, low);
    }

-- a label ends with an ASCII byte
pub label_ends : (answers : List ℕ → ℕ → Type 0) (source : List ℕ) (t : Bool) (label : Label) → IsLabel answers source t label
    → EndsLow source label.len
label_ends answers source t label is =
    by (bracketed (kept_units (kept_text source is.skips))) is.label_is
    (λ b found. closes_at source (kept_text source is.skips) b (from_stands source 0 source is.skips refl) found)
  where
    by : (found : Option Bracketed) → label_between t found ≡ Some label
        → ((b : Bracketed) → found ≡ Some b → get_or source b.close 0 ≡ right_bracket) → EndsLow source label.len
    by None h there = cc
    by (Some b) h there = elim (cases_Bool (is_label_content b.content)) [
      | inl content ↦ (let found = rw content at h in
          let len : b.close + 1 ≡ label.len = cc in
          subst (EndsLow source) len (low_byte source b.close right_bracket (there b refl) (omega arith) (omega arith)))
      | inr other ↦ absurd (let found = rw other at h in cc)
    ]
