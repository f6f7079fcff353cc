-- One step over the source, by what stands next in it: where the scan is then (`IsAt`), what its
-- tally tells, where no label can come, and where the source may be cut.
--
-- A label is read in two passes. The first takes no memory: it finds the closing bracket, whether
-- the text stands in the source as it is, and else its length. The second writes it into memory of
-- that length, and is proved to need no more (`fits` of `write_label`). Both take the same steps
-- over the source (`SourceSteps`): what is left at an offset makes a label with what was read exactly
-- where the source has it.
use Rattle.std.proofs.Common.{ℕ, suc, Bool, true, false, ◌||◌, ◌&&◌, ◌==◌, not, List, [], ◌∷◌, ◌++◌, ◌≡◌, ◌+◌, ◌≤◌, ◌<◌, ◌-◌, Option}
use Rattle.std.proofs.Common.{Some, None, refl, sym, ◌∙◌, ap, subst, cond, arith, drop, take, get_or, length, true≢false, eqb-true}
use Rattle.std.proofs.Math.Bool.{and-false}
use Rattle.std.proofs.Math.Seq.{take-length}
use Rattle.std.proofs.lemmas.Bool.{and_parts}
use Rattle.std.proofs.lemmas.Bool.Decides.{nat_tests}
use Rattle.std.proofs.lemmas.List.{drop-drop, length-drop, get_or-drop}
use Rattle.std.proofs.lemmas.Str.{IsCharBoundary-before_ascii, IsCharBoundary-after_ascii}
use Rattle.std.specs.Str.{IsUtf8, IsCharBoundary}
use Rattle.markdown_scanners_tree.specs.Bytes.{begins_with, is_line_ending, is_white_space, is_punctuation}
use Rattle.markdown_scanners_tree.specs.Ascii.{left_bracket, right_bracket}
use Rattle.markdown_scanners_tree.specs.Kept.{KeptByte, in_line, kept_line, line_len, return_len, kept_from, kept_text, AreSkips}
use Rattle.markdown_scanners_tree.specs.linklabel.Label.{Label, IsLabel, label_between, preceded, Bracketed, bracketed, kept_units, is_label_content}
use Rattle.markdown_scanners_tree.specs.linklabel.private.NextPart.{IsBracket, IsEnding, IsSpace, IsWord, IsNextPart}
use Rattle.markdown_scanners_tree.specs.linklabel.private.Pass.{starts_dropped}
use Rattle.markdown_scanners_tree.specs.declared.linklabel.write.NextPart.{NextPart}
use Rattle.markdown_scanners_tree.proofs.linklabel.Facts.{Facts, facts_past_ending, facts_past_space, facts_past_word}
use Rattle.markdown_scanners_tree.proofs.linklabel.CellText.{white_no_backslash}
use Rattle.markdown_scanners_tree.proofs.linklabel.KeptTextSteps.{Goes, past_byte, at_byte, no_label_at_end, no_label_at_opening, label_at_closing}
use Rattle.markdown_scanners_tree.proofs.linklabel.KeptTextSteps.{closing_label}
use Rattle.markdown_scanners_tree.proofs.linklabel.KeptTextSteps.{past_ending, at_ending, no_label_at_ending, ending_seen, bracketed_after, label_from}
use Rattle.markdown_scanners_tree.proofs.linklabel.SeenBytes.{Seen, Seen-word, Seen-space, Seen-ending, two_endings, many_with_ending, many_seen}

preceded-nil : (b : Option Bracketed) → preceded [] b ≡ b
preceded-nil None = refl
preceded-nil (Some b) = refl

-- the one answer for these bytes
pub record IsOnlySkip (answers : List ℕ → ℕ → Type 0) (rest : List ℕ) (skip : ℕ) : Type 0 where
  pub answer : answers rest skip
  pub only : (other : ℕ) → answers rest other → other ≡ skip

-- the label of the source is what the rest goes on to; where the first byte of the rest is escaped,
-- it is punctuation
pub record IsAt (a : List ℕ → ℕ → Type 0) (source : List ℕ) (escaped : Bool) (seen : List KeptByte) (ix : ℕ)
    (rest : List ℕ) : Type 0 where
  pub ahead : (t : Bool) (label : Label) → IsLabel a source t label → Goes a escaped t seen ix rest label
  pub back : (t : Bool) (label : Label) → Goes a escaped t seen ix rest label → IsLabel a source t label
  pub escapes : escaped ≡ true → begins_with is_punctuation rest ≡ true

white_not_punctuation : (b : ℕ) → is_white_space b ≡ true → is_punctuation b ≡ true → ⊥
white_not_punctuation b w p = grind (arith, nat_tests, w, p)

white_no_bracket : (b : ℕ) → is_white_space b ≡ true → ((b == 93) ≡ false) × ((b == 91) ≡ false)
white_no_bracket b w = (grind (arith, nat_tests, w), grind (arith, nat_tests, w))

pub ending_white : (b : ℕ) → is_line_ending b ≡ true → is_white_space b ≡ true
ending_white b h = grind (arith, nat_tests, h)

pub dark_no_ending : (b : ℕ) → is_white_space b ≡ false → is_line_ending b ≡ false
dark_no_ending b h = grind (arith, nat_tests, h)

module _ (a : List ℕ → ℕ → Type 0) (source : List ℕ) where
  pub at_start : IsAt a source false [] 0 source
  at_start = record {
    ahead = λ t label h. record {
      skips = h.skips;
      answered = h.answered;
      label_is = ap (label_between t) (preceded-nil (bracketed (kept_units (kept_text source h.skips)))) ∙ h.label_is;
    };
    back = λ t label h. record {
      skips = h.skips;
      answered = h.answered;
      label_is = sym (ap (label_between t) (preceded-nil (bracketed (kept_units (kept_text source h.skips)))))
          ∙ h.label_is;
    };
    escapes = λ h. absurd (true≢false (sym h));
  }

  module _ (escaped : Bool) (seen : List KeptByte) (ix : ℕ) (rest : List ℕ) (here : IsAt a source escaped seen ix rest)
    where
      pub none_at_end : rest ≡ [] → (t : Bool) (label : Label) → IsLabel a source t label → ⊥
      none_at_end e t label h =
          no_label_at_end a t seen ix label escaped
          (subst (λ r. Goes a escaped t seen ix r label) e (here.ahead t label h))

      pub none_at_opening : IsBracket escaped rest left_bracket → (t : Bool) (label : Label) → IsLabel a source t label
          → ⊥
      none_at_opening o t label h =
          no_label_at_opening a t seen ix label o.1.0
          (subst (λ x. x) (λ i. Goes a (o.0 i) t seen ix (o.1.1 i) label) (here.ahead t label h))

      pub at_closing : IsBracket escaped rest right_bracket → (t : Bool) (label : Label)
          → label_between t (Some (record { content = seen; close = ix })) ≡ Some label → IsLabel a source t label
      at_closing o t label h =
          here.back t label (subst (λ x. x) (λ i. Goes a (sym o.0 i) t seen ix (sym o.1.1 i) label)
          (closing_label a t seen ix label o.1.0 h))

      pub from_closing : IsBracket escaped rest right_bracket → (t : Bool) (label : Label) → IsLabel a source t label
          → label_between t (Some (record { content = seen; close = ix })) ≡ Some label
      from_closing o t label h =
          label_at_closing a t seen ix label o.1.0
          (subst (λ x. x) (λ i. Goes a (o.0 i) t seen ix (o.1.1 i) label) (here.ahead t label h))

      -- past a byte of a line
      pub after_word : (b : ℕ) (escapes : Bool) (rest' : List ℕ) → (h : IsWord escaped rest b escapes)
          → rest' ≡ h.others
          → IsAt a source escapes (seen ++ in_line b ix ∷ []) (ix + 1) rest'
      after_word b escapes rest' h e =
          let plain = dark_no_ending b h.not_white in record {
            ahead = λ t label l. subst (λ x. x)
                (λ i. Goes a (sym h.escapes_is i) t (seen ++ in_line b ix ∷ []) (ix + 1) (sym e i) label)
                (past_byte a escaped t seen ix b h.others label plain h.no_close h.no_open
                (subst (λ r. Goes a escaped t seen ix r label) h.parts (here.ahead t label l)));
            back = λ t label l. here.back t label
                (subst (λ r. Goes a escaped t seen ix r label) (sym h.parts)
                (at_byte a escaped t seen ix b h.others label plain h.no_close h.no_open
                (subst (λ x. x) (λ i. Goes a (h.escapes_is i) t (seen ++ in_line b ix ∷ []) (ix + 1) (e i) label) l)));
            escapes = λ v. ap (begins_with is_punctuation) e
                ∙ (and_parts (b == 92) _ (and_parts (not escaped) _ (sym h.escapes_is ∙ v)).1).1;
          }

      not_escaped : (b : ℕ) (bs : List ℕ) → rest ≡ b ∷ bs → is_white_space b ≡ true → escaped ≡ false
      not_escaped b bs e w = by escaped (λ h. here.escapes h)
        where
          by : (v : Bool) → (v ≡ true → begins_with is_punctuation rest ≡ true) → v ≡ false
          by true f = absurd (white_not_punctuation b w (sym (ap (begins_with is_punctuation) e) ∙ f refl))
          by false f = refl

      pub after_space : (b : ℕ) (rest' : List ℕ) → (h : IsSpace rest b) → rest' ≡ h.others
          → IsAt a source escaped (seen ++ in_line b ix ∷ []) (ix + 1) rest'
      after_space b rest' h e =
          let same = not_escaped b h.others h.parts h.white in
          let next : not escaped && (b == 92 && begins_with is_punctuation h.others) ≡ false =
          ap (λ v. not escaped && (v && begins_with is_punctuation h.others)) (white_no_backslash b h.white)
          ∙ and-false (not escaped) in
          let close : escaped ≡ false → (b == 93) ≡ false = λ v. (white_no_bracket b h.white).0 in
          let opening : escaped ≡ false → (b == 91) ≡ false = λ v. (white_no_bracket b h.white).1 in
          subst (λ v. IsAt a source v (seen ++ in_line b ix ∷ []) (ix + 1) rest') (sym same) (record {
            ahead = λ t label l. subst (λ x. x)
                (λ i. Goes a (next i) t (seen ++ in_line b ix ∷ []) (ix + 1) (sym e i) label)
                (past_byte a escaped t seen ix b h.others label h.no_ending close opening
                (subst (λ r. Goes a escaped t seen ix r label) h.parts (here.ahead t label l)));
            back = λ t label l. here.back t label
                (subst (λ r. Goes a escaped t seen ix r label) (sym h.parts)
                (at_byte a escaped t seen ix b h.others label h.no_ending close opening
                (subst (λ x. x) (λ i. Goes a (sym next i) t (seen ++ in_line b ix ∷ []) (ix + 1) (e i) label) l)));
            escapes = λ v. absurd (true≢false (sym v));
          })

      -- past a line ending, and what is skipped after it
      module _ (len : ℕ) (h : IsEnding rest len) where
        plain : escaped ≡ false
        plain = not_escaped h.byte h.others h.parts (ending_white h.byte h.ends)

        len_is : len ≡ line_len (h.byte ∷ h.others)
        len_is = h.takes ∙ ap line_len h.parts

        goes : (t : Bool) (label : Label) → IsLabel a source t label → Goes a false t seen ix (h.byte ∷ h.others) label
        goes t label l = subst (λ x. x) (λ i. Goes a (plain i) t seen ix (h.parts i) label) (here.ahead t label l)

        pub after_ending : (skip : ℕ) → IsOnlySkip a (drop len rest) skip
            → IsAt a source escaped (seen ++ kept_line ix rest) (ix + (len + skip)) (drop (len + skip) rest)
        after_ending skip o =
            let n = line_len (h.byte ∷ h.others) in
            let given : a (drop n (h.byte ∷ h.others)) skip =
            subst (λ x. x) (λ i. a (drop (len_is i) (h.parts i)) skip) o.answer in
            let one : (m : ℕ) → a (drop n (h.byte ∷ h.others)) m → m ≡ skip =
            λ m k. o.only m (subst (λ x. x) (λ i. a (drop (sym len_is i) (sym h.parts i)) m) k) in
            subst (λ x. x) (λ i. IsAt a source (sym plain i) (seen ++ kept_line ix (sym h.parts i))
            (ix + (sym len_is i + skip)) (drop (sym len_is i + skip) (sym h.parts i))) (record {
              ahead = λ t label l. past_ending a t seen ix h.byte h.others label h.ends skip one (goes t label l);
              back = λ t label l. here.back t label
                  (subst (λ x. x) (λ i. Goes a (sym plain i) t seen ix (sym h.parts i) label)
                  (at_ending a t seen ix h.byte h.others label h.ends skip given l));
              escapes = λ v. absurd (true≢false (sym v));
            })

        pub none_at_ending : ((m : ℕ) → a (drop len rest) m → ⊥) → (t : Bool) (label : Label) → IsLabel a source t label
            → ⊥
        none_at_ending none t label l = no_label_at_ending a t seen ix h.byte h.others label h.ends
            (λ m g. none m (subst (λ x. x) (λ i. a (drop (sym len_is i) (sym h.parts i)) m) g)) (goes t label l)

        -- where no content begins with what stands up to the line's end
        none_after_line : (t : Bool)
            → ((ks : List KeptByte) → is_label_content ((seen ++ kept_line ix (h.byte ∷ h.others)) ++ ks) ≡ false)
            → (label : Label) → IsLabel a source t label → ⊥
        none_after_line t lacks label l = (let g = goes t label l in by g.skips g.answered g.label_is)
          where
            after : (b : Option Bracketed)
                → label_between t (preceded (seen ++ kept_line ix (h.byte ∷ h.others)) b) ≡ Some label → ⊥
            after None e = cc
            after (Some b) e = (let broken = lacks b.content in cc (rw broken at e))

            by : (skips : List ℕ) → AreSkips a (h.byte ∷ h.others) skips
                → label_from false t seen ix (h.byte ∷ h.others) skips ≡ Some label → ⊥
            by [] k e = cc (rw h.ends at e)
            by (m ∷ ms) k e =
                after (bracketed
                (kept_units (kept_from (ix + (line_len (h.byte ∷ h.others) + m))
                (drop (line_len (h.byte ∷ h.others) + m) (h.byte ∷ h.others)) ms)))
                (sym (ending_seen a t seen ix h.byte h.others label h.ends
                (kept_from (ix + (line_len (h.byte ∷ h.others) + m))
                (drop (line_len (h.byte ∷ h.others) + m) (h.byte ∷ h.others)) ms)) ∙ e)

        pub none_at_second_ending : (t : Bool) (y : Facts) → y.has_ending ≡ true → Seen t source seen ix rest y
            → (label : Label) → IsLabel a source t label → ⊥
        none_at_second_ending t y second s =
            none_after_line t (λ ks. two_endings t source seen ix h.byte h.others y ks h.ends second
            (subst (λ r. Seen t source seen ix r y) h.parts s))

        pub none_at_late_ending : (t : Bool) (y : Facts) → 999 < y.characters + len → Seen t source seen ix rest y
            → (label : Label) → IsLabel a source t label → ⊥
        none_at_late_ending t y many s =
            none_after_line t (λ ks. many_with_ending t source seen ix h.byte h.others y ks h.ends (rw len_is at many)
            (subst (λ r. Seen t source seen ix r y) h.parts s))

      -- after too many characters no label comes
      pub none_so_late : (t : Bool) (y : Facts) → 999 < y.characters → Seen t source seen ix rest y → (label : Label)
          → IsLabel a source t label → ⊥
      none_so_late t y many s label l =
          (let g = here.ahead t label l in after (bracketed_after escaped (kept_from ix rest g.skips)) g.label_is)
        where
          after : (b : Option Bracketed) → label_between t (preceded seen b) ≡ Some label → ⊥
          after None e = cc
          after (Some b) e = (let broken = many_seen t source seen ix rest y b.content s many in cc (rw broken at e))

      -- where the bracket stands after no content of a label
      pub none_at_closing : IsBracket escaped rest right_bracket → is_label_content seen ≡ false
          → (t : Bool) (label : Label) → IsLabel a source t label → ⊥
      none_at_closing o h t label l = (let e = from_closing o t label l in cc (rw h at e))

pub same_take : (xs : List ℕ) (m n : ℕ) → m ≡ n → take m xs ≡ take n xs
same_take xs m n e = ap (λ k. take k xs) e

-- the rest from an offset, as a slice gives it
pub rest_is : (xs : List ℕ) (i : ℕ) → take (length xs - i) (drop i xs) ≡ drop i xs
rest_is xs i = ap (λ n. take n (drop i xs)) (sym (length-drop i xs)) ∙ take-length (drop i xs)

return_len-le : (bs : List ℕ) → return_len bs ≤ 1 + length bs
return_len-le [] = omega arith
return_len-le (b ∷ bs) =
    elim (b == 10) as (λ v. cond v 2 1 ≤ 1 + length (b ∷ bs)) [ true ↦ omega arith | false ↦ omega arith ]

line_len-le : (bs : List ℕ) → line_len bs ≤ length bs
line_len-le [] = omega arith
line_len-le (b ∷ bs) =
    let more = line_len-le bs in
    let back = return_len-le bs in
    elim (b == 10) as (λ v. cond v 1 (cond (b == 13) (return_len bs) (suc (line_len bs))) ≤ length (b ∷ bs)) [
      | true ↦ omega arith
      | false ↦
          elim (b == 13) as (λ v. cond v (return_len bs) (suc (line_len bs)) ≤ length (b ∷ bs))
          [ true ↦ omega arith | false ↦ omega arith ]
    ]

-- the byte at an offset, and where the text may be cut
pub byte_at : (source : List ℕ) (ix b : ℕ) (bs : List ℕ) → drop ix source ≡ b ∷ bs
    → (ix < length source) × (get_or source ix 0 ≡ b)
byte_at source ix b bs e = (
  omega (arith, length-drop ix source, ap length e),
  ap (λ n. get_or source n 0) (omega arith) ∙ sym (get_or-drop ix source 0 0) ∙ ap (λ l. get_or l 0 0) e,
)

pub cut_before : (source : List ℕ) (ix b : ℕ) (bs : List ℕ) → drop ix source ≡ b ∷ bs → b < 128
    → IsCharBoundary source ix
cut_before source ix b bs e small =
    (let at = byte_at source ix b bs e in IsCharBoundary-before_ascii source ix at.0 (rw at.1 small))

pub cut_after : (source : List ℕ) (ix b : ℕ) (bs : List ℕ) → IsUtf8 source → drop ix source ≡ b ∷ bs → b < 128
    → IsCharBoundary source (ix + 1)
cut_after source ix b bs u e small =
    (let at = byte_at source ix b bs e in IsCharBoundary-after_ascii source ix u at.0 (rw at.1 small))

pub white_small : (b : ℕ) → is_white_space b ≡ true → b < 128
white_small b w = grind (arith, nat_tests, w)

pub cut_after_ending : (source : List ℕ) (ix len : ℕ) → IsUtf8 source → IsEnding (drop ix source) len
    → IsCharBoundary source (ix + len)
cut_after_ending source ix len u h =
    subst (λ n. IsCharBoundary source (ix + n)) (sym (h.takes ∙ ap line_len h.parts)) (by (b == 10) (b == 13) h.ends)
  where
    b : ℕ
    b = h.byte

    first : IsCharBoundary source (ix + 1)
    first = cut_after source ix h.byte h.others u h.parts (white_small h.byte (ending_white h.byte h.ends))

    return : (cs : List ℕ) → drop ix source ≡ h.byte ∷ cs → IsCharBoundary source (ix + return_len cs)
    return [] e = first
    return (c ∷ cs) e = yet (c == 10) (eqb-true c 10)
      where
        yet : (x : Bool) → (x ≡ true → c ≡ 10) → IsCharBoundary source (ix + cond x 2 1)
        yet true f =
            (let n : ix + 1 + 1 ≡ ix + 2 = omega arith in
            subst (IsCharBoundary source) n
            (cut_after source (ix + 1) c cs u (sym (drop-drop 1 ix source) ∙ ap (drop 1) e)
            (rw (f refl) (omega arith))))
        yet false f = first

    by : (x y : Bool) → (x || y) ≡ true
        → IsCharBoundary source (ix + cond x 1 (cond y (return_len h.others) (suc (line_len h.others))))
    by true y h' = first
    by false true h' = return h.others h.parts
    by false false h' = absurd (true≢false (sym h'))

-- how much is there
line_len-some : (b : ℕ) (bs : List ℕ) → is_line_ending b ≡ true → 1 ≤ line_len (b ∷ bs)
line_len-some b bs h = elim (b == 10) as (λ v. 1 ≤ cond v 1 (cond (b == 13) (return_len bs) (suc (line_len bs)))) [
  | true ↦ omega arith
  | false ↦
      elim (b == 13) as (λ v. 1 ≤ cond v (return_len bs) (suc (line_len bs))) [
        | true ↦
            elim (begins_with (λ c. c == 10) bs) as (λ v. 1 ≤ cond v 2 1)
            [ true ↦ omega arith | false ↦ omega arith ]
        | false ↦ omega arith
      ]
]

pub ending_fits : (source : List ℕ) (ix len : ℕ) → IsEnding (drop ix source) len
    → (ix + len ≤ length source) × (1 ≤ len)
ending_fits source ix len h = (
  omega (arith, h.takes, line_len-le (drop ix source), length-drop ix source, ap length h.parts),
  omega (arith, h.takes ∙ ap line_len h.parts, line_len-some h.byte h.others h.ends),
)

-- what stands next, as the slice tells it
pub next_part_at : (source : List ℕ) (ix : ℕ) (escaped : Bool) (f g : NextPart)
    → IsNextPart escaped (take (length source - ix) (drop ix source)) f → f ≡ g → IsNextPart escaped (drop ix source) g
next_part_at source ix escaped f g h e =
    subst (λ x. x) (λ i. IsNextPart escaped (rest_is source ix i) (e i)) h

pub byte_fits : (source : List ℕ) (ix b : ℕ) (bs : List ℕ) → drop ix source ≡ b ∷ bs → ix + 1 ≤ length source
byte_fits source ix b bs e = omega (arith, length-drop ix source, ap length e)

pub byte_rest : (source : List ℕ) (ix b : ℕ) (bs : List ℕ) → drop ix source ≡ b ∷ bs → drop (ix + 1) source ≡ bs
byte_rest source ix b bs e = sym (drop-drop 1 ix source) ∙ ap (drop 1) e

-- the tally after what stands next
module _ (t : Bool) (source : List ℕ) (seen : List KeptByte) (ix : ℕ) (rest rest' : List ℕ) (y : Facts)
    (s : Seen t source seen ix rest y) where
  pub given_word : (escaped : Bool) (b : ℕ) (escapes : Bool) (h : IsWord escaped rest b escapes) → rest' ≡ h.others
      → Seen t source (seen ++ in_line b ix ∷ []) (ix + 1) rest' (facts_past_word y b (starts_dropped t rest))
  given_word escaped b escapes h e = subst (λ x. x)
      (λ i. Seen t source (seen ++ in_line b ix ∷ []) (ix + 1) (sym e i)
      (facts_past_word y b (starts_dropped t (sym h.parts i))))
      (Seen-word t source seen ix b h.others y h.not_white (subst (λ r. Seen t source seen ix r y) h.parts s))

  pub given_space : (b : ℕ) (h : IsSpace rest b) → rest' ≡ h.others
      → Seen t source (seen ++ in_line b ix ∷ []) (ix + 1) rest' (facts_past_space y b)
  given_space b h e = subst (λ r. Seen t source (seen ++ in_line b ix ∷ []) (ix + 1) r (facts_past_space y b)) (sym e)
      (Seen-space t source seen ix b h.others y h.white (subst (λ r. Seen t source seen ix r y) h.parts s))

  pub given_ending : (jx len : ℕ) (h : IsEnding rest len) → y.has_ending ≡ false
      → Seen t source (seen ++ kept_line ix rest) jx rest' (facts_past_ending y len)
  given_ending jx len h first = subst (λ x. x)
      (λ i. Seen t source (seen ++ kept_line ix (sym h.parts i)) jx rest'
      (facts_past_ending y (sym (h.takes ∙ ap line_len h.parts) i)))
      (Seen-ending t source seen ix h.byte jx h.others rest' y h.ends first
      (subst (λ r. Seen t source seen ix r y) h.parts s))
