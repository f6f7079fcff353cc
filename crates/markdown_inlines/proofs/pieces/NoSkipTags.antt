-- Where nothing is skipped, the tags that are read over lines are the tags of the source.
use Rattle.std.proofs.Common.{◌≡◌, ℕ, ◌+◌, ◌≤◌, ◌==◌, ◌⊎◌, Bool, true, false, cond, List, [], ◌∷◌, ◌++◌, length, refl, sym, ap, ◌∙◌}
use Rattle.std.proofs.Common.{subst, arith, inl, inr}
use Rattle.std.proofs.Common.{append_assoc, add-zero}
use Rattle.std.specs.Prelude.{codes}
use Rattle.std.specs.List.{AllPass}
use Rattle.std.proofs.lemmas.Bool.{cases_Bool, eq-eqb, eqb-true}
use Rattle.std.proofs.lemmas.List.{length-map}
use Rattle.std.proofs.lemmas.List.Sums.{sum_by-append}
use Rattle.markdown_scanners_tree.specs.Bytes.{is_letter, is_line_ending, is_white_space_in_line}
use Rattle.markdown_scanners_tree.specs.Kept.{KeptByte, in_line, at_line_end, bytes_of, line_endings}
use Rattle.markdown_scanners_tree.specs.scanners.html_tag.HtmlTag.{IsTag, IsOpenTag, IsClosingTag, IsTagName, IsLineEndingOrNone, is_tag_name_byte}
use Rattle.markdown_scanners_tree.specs.scanners.html_tag.HtmlTag.{joined}
use Rattle.markdown_scanners_tree.specs.scanners.html_tag.KeptTag.{IsKeptTag, offset_after, tag_buffer}
use Rattle.markdown_scanners_tree.specs.scanners.tag_state.private.TagMachine.{ends_source_line}
use Rattle.markdown_scanners_tree.proofs.KeptReading.{Step, ends_alone, step_in_line, step_at_end, nothing_read, last_read}
use Rattle.markdown_scanners_tree.proofs.KeptStep.{Reads}
use Rattle.markdown_scanners_tree.proofs.PassLemmas.{AllPass-head, AllPass-tail}
use Rattle.markdown_inlines.specs.Pieces.{IsTagPiece}

-- a byte that is kept, before these
abbrev kept_byte : ℕ → ℕ → List ℕ → KeptByte
kept_byte offset b rest = cond (ends_source_line (b ∷ rest)) (at_line_end b offset) (in_line b offset)

-- the bytes of a front, each at its offset
abbrev marked : ℕ → List ℕ → List ℕ → List KeptByte
marked offset [] rest = []
marked offset (b ∷ bs) rest = kept_byte offset b (bs ++ rest) ∷ marked (offset + 1) bs rest

kept_bytes : (ends : Bool) (offset b : ℕ) → (cond ends (at_line_end b offset) (in_line b offset)).byte ≡ b
kept_bytes true offset b = refl
kept_bytes false offset b = refl

kept_offset : (ends : Bool) (offset b : ℕ) → (cond ends (at_line_end b offset) (in_line b offset)).offset ≡ offset
kept_offset true offset b = refl
kept_offset false offset b = refl

bytes_marked : (offset : ℕ) (bs rest : List ℕ) → bytes_of (marked offset bs rest) ≡ bs
bytes_marked offset [] rest = refl
bytes_marked offset (b ∷ bs) rest =
    ap (λ x. x ∷ bytes_of (marked (offset + 1) bs rest)) (kept_bytes (ends_source_line (b ∷ (bs ++ rest))) offset b)
    ∙ ap (λ xs. b ∷ xs) (bytes_marked (offset + 1) bs rest)

-- ---- how many line endings are kept

abbrev AtMost : ℕ → List ℕ → Type 0
AtMost n bytes = (offset : ℕ) (rest : List ℕ) → line_endings (marked offset bytes rest) ≤ n

marked_append : (offset : ℕ) (xs bs rest : List ℕ)
    → marked offset (xs ++ bs) rest ≡ marked offset xs (bs ++ rest) ++ marked (offset + length xs) bs rest
marked_append offset [] bs rest = ap (λ p. marked p bs rest) (sym (add-zero offset))
marked_append offset (a ∷ xs) bs rest =
    let later : offset + 1 + length xs ≡ offset + length (a ∷ xs) = omega arith in
    ap (λ r. kept_byte offset a r ∷ marked (offset + 1) (xs ++ bs) rest) (append_assoc xs bs rest)
    ∙ ap (λ ks. kept_byte offset a (xs ++ (bs ++ rest)) ∷ ks) (marked_append (offset + 1) xs bs rest)
    ∙ ap (λ p. kept_byte offset a (xs ++ (bs ++ rest)) ∷ (marked (offset + 1) xs (bs ++ rest) ++ marked p bs rest)) later

both : (m n : ℕ) (xs bs : List ℕ) → AtMost m xs → AtMost n bs → AtMost (m + n) (xs ++ bs)
both m n xs bs first second offset rest =
    let split = ap line_endings (marked_append offset xs bs rest)
    ∙ sum_by-append (λ (k : KeptByte). cond k.ends_line 1 0) (marked offset xs (bs ++ rest)) (marked (offset + length xs) bs rest) in
    omega (arith, split, first offset (bs ++ rest), second (offset + length xs) rest)

plain_end : (b : ℕ) (rest : List ℕ) → is_line_ending b ≡ false → ends_source_line (b ∷ rest) ≡ false
plain_end b rest plain = elim (cases_Bool (ends_source_line (b ∷ rest))) [
  | inl ends ↦ absurd (let other = (ends_alone 0 b rest ends).0 in cc)
  | inr none ↦ none
]

module _ (test : ℕ → Bool) (lf : test 10 ≡ false) (cr : test 13 ≡ false) where
  no_ending : (b : ℕ) → test b ≡ true → is_line_ending b ≡ false
  no_ending b passes = elim (cases_Bool (b == 10)) [
    | inl is ↦ absurd (let other = ap test (sym (eqb-true b 10 is)) in cc)
    | inr not_lf ↦ elim (cases_Bool (b == 13)) [
      | inl is ↦ absurd (let other = ap test (sym (eqb-true b 13 is)) in cc)
      | inr not_cr ↦ rw (not_lf, not_cr) refl
    ]
  ]

  no_endings : (bytes : List ℕ) → AllPass test bytes → AtMost 0 bytes
  no_endings [] all offset rest = omega arith
  no_endings (b ∷ bytes) all offset rest =
      let plain = plain_end b (bytes ++ rest) (no_ending b (AllPass-head test b bytes all)) in
      let first : kept_byte offset b (bytes ++ rest) ≡ in_line b offset =
      ap (λ ends. cond ends (at_line_end b offset) (in_line b offset)) plain in
      let split = ap (λ k. line_endings (k ∷ marked (offset + 1) bytes rest)) first
      ∙ sum_by-append (λ (k : KeptByte). cond k.ends_line 1 0) (in_line b offset ∷ []) (marked (offset + 1) bytes rest) in
      omega (arith, split, no_endings bytes (AllPass-tail test b bytes all) (offset + 1) rest)

one_byte : (ends : Bool) (offset b : ℕ) → line_endings (cond ends (at_line_end b offset) (in_line b offset) ∷ []) ≤ 1
one_byte true offset b = omega arith
one_byte false offset b = omega arith

one_ending : (ending : List ℕ) → IsLineEndingOrNone ending → AtMost 1 ending
one_ending ending (inl is) = subst (AtMost 1) (sym is) (λ offset rest. omega arith)
one_ending ending (inr (inl is)) = subst (AtMost 1) (sym is) (λ offset rest. one_byte (ends_source_line (10 ∷ rest)) offset 10)
one_ending ending (inr (inr (inl is))) = subst (AtMost 1) (sym is) (λ offset rest. one_byte (ends_source_line (13 ∷ rest)) offset 13)
one_ending ending (inr (inr (inr is))) = subst (AtMost 1) (sym is) (λ offset rest. omega arith)

name_endings : (name : List ℕ) → IsTagName name → AtMost 0 name
name_endings [] is = absurd is
name_endings (b ∷ name) is =
    both 0 0 (b ∷ []) name (λ offset rest.
    (let plain = plain_end b rest (no_ending is_letter refl refl b is.0) in
    let first : kept_byte offset b rest ≡ in_line b offset =
    ap (λ ends. cond ends (at_line_end b offset) (in_line b offset)) plain in
    let count = ap (λ k. line_endings (k ∷ [])) first in
    omega (arith, count))) (no_endings is_tag_name_byte refl refl name is.1)

opener_endings : AtMost 0 (codes "</")
opener_endings offset rest = omega arith

bracket_endings : AtMost 0 (codes ">")
bracket_endings offset rest = omega arith

closing_endings : (tag : List ℕ) → IsClosingTag tag → AtMost 1 tag
closing_endings tag is =
    let after : AtMost 0 (is.after ++ codes ">") =
    both 0 0 is.after (codes ">") (no_endings is_white_space_in_line refl refl is.after is.spaced_after) bracket_endings in
    let ending : AtMost 1 (is.ending ++ (is.after ++ codes ">")) =
    both 1 0 is.ending (is.after ++ codes ">") (one_ending is.ending is.ended) after in
    let before : AtMost 1 (is.before ++ (is.ending ++ (is.after ++ codes ">"))) =
    both 0 1 is.before (is.ending ++ (is.after ++ codes ">")) (no_endings is_white_space_in_line refl refl is.before is.spaced) ending in
    let name : AtMost 1 (is.name ++ (is.before ++ (is.ending ++ (is.after ++ codes ">")))) =
    both 0 1 is.name (is.before ++ (is.ending ++ (is.after ++ codes ">"))) (name_endings is.name is.named) before in
    subst (AtMost 1) (sym is.parts)
    (both 0 1 (codes "</") (is.name ++ (is.before ++ (is.ending ++ (is.after ++ codes ">")))) opener_endings name)

-- ---- a tag ends with `>`

pub record Ends (bytes : List ℕ) : Type 0 where
  pub init : List ℕ
  pub is : bytes ≡ init ++ 62 ∷ []

ends_after : (xs bs : List ℕ) → Ends bs → Ends (xs ++ bs)
ends_after xs bs ends = record { init = xs ++ ends.init; is = ap (λ b. xs ++ b) ends.is ∙ sym (append_assoc xs ends.init (62 ∷ [])) }

ends_joined : (texts : List (List ℕ)) (rest : List ℕ) → Ends rest → Ends (joined texts rest)
ends_joined [] rest ends = ends
ends_joined (text ∷ texts) rest ends = ends_after text (joined texts rest) (ends_joined texts rest ends)

bracket : Ends (codes ">")
bracket = record { init = []; is = refl }

pub tag_ends : (tag : List ℕ) → IsTag tag → Ends tag
tag_ends tag (inl is) =
    subst Ends (sym is.parts)
    (ends_after (60 ∷ []) _ (ends_after is.name _ (ends_joined is.attributes _
    (ends_after is.space _ (ends_after is.slash _ bracket)))))
tag_ends tag (inr is) =
    subst Ends (sym is.parts)
    (ends_after (codes "</") _ (ends_after is.name _ (ends_after is.before _ (ends_after is.ending _ (ends_after is.after _ bracket)))))

-- ---- reading without skips

record ReadFront (offset : ℕ) (source : List ℕ) (prefix : List KeptByte) : Type 0 where
  pub after : List ℕ
  pub parts : source ≡ bytes_of prefix ++ after
  pub end : offset_after offset prefix ≡ offset + length prefix

module _ (answers : List ℕ → ℕ → Type 0) (nothing : (rest : List ℕ) → answers rest 0)
    (only : (rest : List ℕ) (n : ℕ) → answers rest n → n ≡ 0) where
  step : (offset b : ℕ) (bs : List ℕ) → Step answers offset (b ∷ bs) (kept_byte offset b bs) (offset + 1) bs
  step offset b bs = elim (cases_Bool (ends_source_line (b ∷ bs))) [
    | inl ends ↦ (
        let is : kept_byte offset b bs ≡ at_line_end b offset = ap (λ t. cond t (at_line_end b offset) (in_line b offset)) ends in
        subst (λ k. Step answers offset (b ∷ bs) k (offset + 1) bs) (sym is)
        (step_at_end answers offset b bs 0 ends (nothing bs) (only bs))
        )
    | inr none ↦ (
        let is : kept_byte offset b bs ≡ in_line b offset = ap (λ t. cond t (at_line_end b offset) (in_line b offset)) none in
        subst (λ k. Step answers offset (b ∷ bs) k (offset + 1) bs) (sym is) (step_in_line answers offset b bs none)
        )
  ]

  front : (offset : ℕ) (source : List ℕ) (prefix : List KeptByte) → Reads answers offset source prefix → ReadFront offset source prefix
  front offset source [] r = record { after = source; parts = refl; end = sym (add-zero offset) }
  front offset [] (c ∷ t) r = absurd (nothing_read answers offset c t r)
  front offset (b ∷ bs) (c ∷ t) r =
      let read = (step offset b bs).back c t r in
      let more = front (offset + 1) bs t read.1 in
      let byte : c.byte ≡ b = ap (λ k. k.byte) read.0 ∙ kept_bytes (ends_source_line (b ∷ bs)) offset b in
      let at : c.offset ≡ offset = ap (λ k. k.offset) read.0 ∙ kept_offset (ends_source_line (b ∷ bs)) offset b in
      let later : offset + 1 + length t ≡ offset + length (c ∷ t) = omega arith in
      record {
        after = more.after;
        parts = ap (λ x. x ∷ bs) (sym byte) ∙ ap (λ xs. c.byte ∷ xs) more.parts;
        end = ap (λ p. offset_after (p + 1) t) at ∙ more.end ∙ later;
      }

  reads : (offset : ℕ) (bs rest : List ℕ) → Reads answers offset ((bs ++ 62 ∷ []) ++ rest) (marked offset (bs ++ 62 ∷ []) rest)
  reads offset [] rest = last_read answers offset 62 rest refl
  reads offset (b ∷ []) rest =
      (step offset b (62 ∷ rest)).forth (in_line 62 (offset + 1)) [] (reads (offset + 1) [] rest)
  reads offset (b ∷ c ∷ bs) rest =
      (step offset b ((c ∷ (bs ++ 62 ∷ [])) ++ rest)).forth _ _ (reads (offset + 1) (c ∷ bs) rest)

  either : (bytes : List ℕ) (endings : ℕ) → IsOpenTag bytes ⊎ (IsClosingTag bytes × (endings ≤ 1)) → IsTag bytes
  either bytes endings (inl is) = inl is
  either bytes endings (inr is) = inr is.0

  or_closing : (tag : List ℕ) (endings : ℕ) → (IsClosingTag tag → endings ≤ 1) → IsTag tag
      → IsOpenTag tag ⊎ (IsClosingTag tag × (endings ≤ 1))
  or_closing tag endings few (inl is) = inl is
  or_closing tag endings few (inr is) = inr (is, few is)

  whole : (source : List ℕ) (prefix : List KeptByte) → IsKeptTag answers source prefix → ReadFront 0 source prefix
  whole source prefix is =
      front 0 source prefix (record {
        skips = is.kept.skips;
        rest = is.kept.rest;
        answered = is.kept.answered;
        begins = is.kept.begins;
      })

  pub tag_of_source : (source : List ℕ) (prefix : List KeptByte) (n : ℕ) → IsKeptTag answers source prefix
      → n ≡ offset_after 0 prefix → IsTagPiece source n
  tag_of_source source prefix n is ends =
      let f = whole source prefix is in
      let sized : length (bytes_of prefix) ≡ length prefix = length-map prefix (λ x. x.byte) in
      record {
        tag = bytes_of prefix;
        after = f.after;
        parts = f.parts;
        is_tag = either (bytes_of prefix) (line_endings prefix) is.tag;
        counted = omega (arith, ends, f.end, sized);
      }

  pub no_buffer : (source : List ℕ) (prefix : List KeptByte) → IsKeptTag answers source prefix → tag_buffer prefix ≡ []
  no_buffer source prefix is =
      let f = whole source prefix is in
      let same : offset_after 0 prefix ≡ length prefix = omega (arith, f.end) in
      ap (λ t. cond t [] (bytes_of prefix)) (eq-eqb (offset_after 0 prefix) (length prefix) same)

  pub kept_of_source : (source : List ℕ) (n : ℕ) → IsTagPiece source n
      → (prefix : List KeptByte) × IsKeptTag answers source prefix × (offset_after 0 prefix ≡ n)
  kept_of_source source n is =
      let ends = tag_ends is.tag is.is_tag in
      let prefix = marked 0 is.tag is.after in
      let read : Reads answers 0 (is.tag ++ is.after) prefix =
      subst (λ t. Reads answers 0 (t ++ is.after) (marked 0 t is.after)) (sym ends.is) (reads 0 ends.init is.after) in
      let here : Reads answers 0 source prefix = subst (λ t. Reads answers 0 t prefix) (sym is.parts) read in
      let same : bytes_of prefix ≡ is.tag = bytes_marked 0 is.tag is.after in
      let kept : IsKeptTag answers source prefix = record {
        kept = record { skips = here.skips; rest = here.rest; answered = here.answered; begins = here.begins };
        tag = or_closing (bytes_of prefix) (line_endings prefix)
            (λ closing. closing_endings is.tag (subst IsClosingTag same closing) 0 is.after) (subst IsTag (sym same) is.is_tag);
      } in
      let sized : length (bytes_of prefix) ≡ length prefix = length-map prefix (λ x. x.byte) in
      (prefix, kept, omega (arith, (whole source prefix kept).end, sized, ap length same, is.counted))

-- the same, with what a scan answers first
module _ (answers : List ℕ → ℕ → Type 0) (source : List ℕ) where
  pub source_tag : (prefix : List KeptByte) → IsKeptTag answers source prefix → (n : ℕ) → n ≡ offset_after 0 prefix
      → ((rest : List ℕ) → answers rest 0) → ((rest : List ℕ) (n : ℕ) → answers rest n → n ≡ 0) → IsTagPiece source n
  source_tag prefix is n ends nothing only = tag_of_source answers nothing only source prefix n is ends

  pub no_source_tag : ((prefix : List KeptByte) → ¬ IsKeptTag answers source prefix) → ((rest : List ℕ) → answers rest 0)
      → ((rest : List ℕ) (n : ℕ) → answers rest n → n ≡ 0) → (n : ℕ) → ¬ IsTagPiece source n
  no_source_tag none nothing only n is = let kept = kept_of_source answers nothing only source n is in none kept.0 kept.1

  pub memory_for_none : (prefix : List KeptByte) → IsKeptTag answers source prefix → (tag_buffer prefix ≡ [] → ⊥)
      → ((rest : List ℕ) → answers rest 0) → ((rest : List ℕ) (n : ℕ) → answers rest n → n ≡ 0) → ⊥
  memory_for_none prefix is wanted nothing only = wanted (no_buffer answers nothing only source prefix is)
