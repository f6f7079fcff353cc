-- The lines of a paragraph, up to the first that ends it after those before it.
use Rattle.std.proofs.Common.{ℕ, Bool, true, false, ◌⊎◌, List, [], ◌∷◌, ◌++◌, ◌≡◌, inl, inr, refl, sym, ap}
use Rattle.std.proofs.Common.{◌∙◌, subst, append_assoc, append-nil, IsTrue, Option, Some, None, ◌==◌, ◌≤◌, length, arith, suc, take, drop, not, ◌+◌}
use Rattle.std.specs.List.{list_all, prefix_len}
use Rattle.std.proofs.lemmas.Bool.{and_parts, eqb-true}
use Rattle.markdown_values.specs.declared.values.HeadingLevel.{HeadingLevel}
use Rattle.markdown_values.specs.declared.values.HeadingLevel.TheVariants.{H1, H2, H3, H4, H5, H6}
use Rattle.markdown_scanners_tree.specs.Ascii.{colon, equals_sign, hyphen}
use Rattle.markdown_scanners_tree.specs.Bytes.{begins_with, is_line_ending, is_space_or_tab}
use Rattle.markdown_scanners_tree.specs.scanners.Headings.{underline_byte}
use Rattle.markdown_scanners_tree.specs.scanners.TextLines.{lines_of}
use Rattle.markdown_blocks.specs.blank_lines.BlankLines.{is_blank}
use Rattle.markdown_blocks.specs.declared.blocks.TextEnd.{TextEnd}
use Rattle.markdown_values.specs.declared.values.extensions.Extensions.{Extensions}
use Rattle.markdown_blocks.specs.declared.taken.Extent.{Extent}
use Rattle.markdown_blocks.specs.definitions.Content.{content_of}
use Rattle.markdown_blocks.specs.definitions.Definitions.{HasText}
use Rattle.markdown_blocks.specs.containers.Containers.{OpenContainers, Rest, rest_in}
use Rattle.markdown_blocks.specs.taken.Lines.{IsTaken, IsNext}
use Rattle.markdown_blocks.specs.blocks.Endings.{EndsText, IsUnderOrDefines}
use Rattle.markdown_blocks.specs.blocks.Leaves.{IsBlank, HasIndent, DefinesTerm, In, IsUnderline, LeavesParagraph, LeavesAfter, Underlines}
use Rattle.markdown_blocks.specs.blocks.Leaves.{BeginTable, EndParagraph, NoneAfter}
use Rattle.markdown_blocks.proofs.taken.TakenLemmas.{taken-next}

none-append : (P : List (List ℕ) → List (List ℕ) → Type 0) (before xs ys rest : List (List ℕ)) → NoneAfter P before xs (ys ++ rest)
    → NoneAfter P (before ++ xs) ys rest → NoneAfter P before (xs ++ ys) rest
none-append P before [] ys rest none more = rw append-nil at more
none-append P before (x ∷ xs) ys rest none more = (
  subst (λ ls. ¬ P before (x ∷ ls)) (sym (append_assoc xs ys rest)) none.0,
  none-append P (before ++ x ∷ []) xs ys rest none.1 (rw append_assoc more),
)

-- an underline is not blank
head_marked : (n m b : ℕ) (bs : List ℕ) → m ≡ suc n → is_space_or_tab b ≡ false → list_all is_space_or_tab (take m (b ∷ bs)) ≡ false
head_marked n m b bs some text =
    let here : list_all is_space_or_tab (b ∷ take n bs) ≡ false = rw text refl in
    subst (λ k. list_all is_space_or_tab (take k (b ∷ bs)) ≡ false) (sym some) here

marked : (b : ℕ) (bs : List ℕ) → (b ≡ equals_sign) ⊎ (b ≡ hyphen) → is_blank (b ∷ bs) ≡ false
marked b bs (inl is) =
    let n = prefix_len (λ c. not (is_line_ending c)) bs in rw is (head_marked n (1 + n) equals_sign bs (omega arith) refl)
marked b bs (inr is) =
    let n = prefix_len (λ c. not (is_line_ending c)) bs in rw is (head_marked n (1 + n) hyphen bs (omega arith) refl)

of_either : (level : HeadingLevel) (byte : ℕ) → underline_byte level ≡ Some byte → (byte ≡ equals_sign) ⊎ (byte ≡ hyphen)
of_either H1 byte is = inl cc
of_either H2 byte is = inr cc
of_either H3 byte is = cc
of_either H4 byte is = cc
of_either H5 byte is = cc
of_either H6 byte is = cc

not_blank : (bytes : List ℕ) (level : HeadingLevel) (byte : ℕ) (run rest : List ℕ) → underline_byte level ≡ Some byte → bytes ≡ run ++ rest
    → IsTrue (list_all (λ b. b == byte) run) → 1 ≤ length run → ¬ IsTrue (is_blank bytes)
not_blank bytes level byte [] rest of parts all some blank = absurd (omega (arith, some))
not_blank bytes level byte (b ∷ run) rest of parts all some blank =
    let same : b ≡ byte = eqb-true b byte (and_parts (b == byte) _ all).0 in
    let either = subst (λ x. (x ≡ equals_sign) ⊎ (x ≡ hyphen)) (sym same) (of_either level byte of) in
    let text : is_blank (b ∷ (run ++ rest)) ≡ false = marked b (run ++ rest) either in
    let both : true ≡ false = sym blank ∙ ap is_blank parts ∙ text in cc

-- the marker of a definition is not blank, and no underline
colon_text : (bytes : List ℕ) → begins_with (λ b. b == colon) bytes ≡ true → is_blank bytes ≡ false
colon_text [] h = cc
colon_text (b ∷ bs) h =
    let n = prefix_len (λ c. not (is_line_ending c)) bs in
    subst (λ c. is_blank (c ∷ bs) ≡ false) (sym (eqb-true b colon h)) (head_marked n (1 + n) colon bs (omega arith) refl)

not_under : (bytes : List ℕ) (level : HeadingLevel) (byte : ℕ) (run rest : List ℕ) → underline_byte level ≡ Some byte → bytes ≡ run ++ rest
    → IsTrue (list_all (λ b. b == byte) run) → 1 ≤ length run → ¬ (begins_with (λ b. b == colon) bytes ≡ true)
not_under bytes level byte [] rest of parts all some h = absurd (omega (arith, some))
not_under bytes level byte (b ∷ run) rest of parts all some h =
    let same : b ≡ byte = eqb-true b byte (and_parts (b == byte) _ all).0 in
    let front : (b == colon) ≡ true = subst (λ bs. begins_with (λ c. c == colon) bs ≡ true) parts h in
    by (subst (λ x. (x ≡ equals_sign) ⊎ (x ≡ hyphen)) (sym same) (of_either level byte of)) front
  where
    by : (b ≡ equals_sign) ⊎ (b ≡ hyphen) → ¬ ((b == colon) ≡ true)
    by (inl is) front = let both : (equals_sign == colon) ≡ true = subst (λ x. (x == colon) ≡ true) is front in cc
    by (inr is) front = let both : (hyphen == colon) ≡ true = subst (λ x. (x == colon) ≡ true) is front in cc

-- what ends a paragraph with text has less than four columns of space, and is not blank
module _ (asked : Extensions) (rest : Rest) where
  under_near : (level : Option HeadingLevel) → IsUnderOrDefines asked level rest → ¬ HasIndent rest
  under_near (Some level) h = h.0
  under_near None h = h.0

  under_text : (level : Option HeadingLevel) → IsUnderOrDefines asked level rest → ¬ IsBlank rest
  under_text (Some level) h blank =
      let under = h.2 in
      not_blank rest.text level under.byte under.run under.rest under.of_level under.is_run.parts under.is_run.all under.at_least_one blank
  under_text None h blank =
      let both : true ≡ false = sym blank ∙ colon_text rest.text (and_parts asked.definition_lists _ h.1).1 in cc

  one_of_both : (level : HeadingLevel) → DefinesTerm asked rest → ¬ IsUnderline level rest
  one_of_both level defines h =
      let under = h.2 in
      not_under rest.text level under.byte under.run under.rest under.of_level under.is_run.parts under.is_run.all under.at_least_one
      (and_parts asked.definition_lists _ defines.1).1

module _ (outer : OpenContainers) (words : List ℕ) (before : List (List ℕ)) (line : List ℕ) where
  -- a line that neither underlines nor defines a paragraph with text
  module _ (none : (level : Option HeadingLevel) → ¬ In outer.containers (IsUnderOrDefines outer.extensions level) line) where
    pub goes_on : ¬ LeavesParagraph outer line → ¬ LeavesAfter outer words before line
    goes_on stays (inl out) = stays (inl out)
    goes_on stays (inr (inside, inl blank)) = stays (inr (inside, inl blank))
    goes_on stays (inr (inside, inr (inl (inl under, text)))) = none (Some under.0) (inside, under.1)
    goes_on stays (inr (inside, inr (inl (inr defines, text)))) = none None (inside, defines)
    goes_on stays (inr (inside, inr (inr interrupts))) = stays (inr (inside, inr (inr interrupts)))

    pub leaves_so : LeavesParagraph outer line → LeavesAfter outer words before line
    leaves_so (inl out) = inl out
    leaves_so (inr (inside, inl blank)) = inr (inside, inl blank)
    leaves_so (inr (inside, inr (inl under))) = absurd (none (Some under.0) (inside, under.1))
    leaves_so (inr (inside, inr (inr interrupts))) = inr (inside, inr (inr interrupts))

  -- a line that does, after definitions alone or after text
  module _ (found : TextEnd) (is : EndsText outer found line) where
    pub text_goes_on : found.interrupts ≡ false → (¬ HasText (content_of outer.containers words before)) → ¬ LeavesAfter outer words before line
    text_goes_on goes none (inl out) = out.0 is.ends.0
    text_goes_on goes none (inr (inside, inl blank)) =
        under_text outer.extensions (rest_in outer.containers line) found.level is.ends.1 blank
    text_goes_on goes none (inr (inside, inr (inl under))) = none under.1
    text_goes_on goes none (inr (inside, inr (inr interrupts))) =
        let both : true ≡ false = sym (is.interrupts.1 interrupts.1) ∙ goes in cc

    pub interrupts_so : found.interrupts ≡ true → LeavesAfter outer words before line
    interrupts_so so =
        inr (is.ends.0, inr (inr (under_near outer.extensions (rest_in outer.containers line) found.level is.ends.1, is.interrupts.0 so)))

    pub underlines_so : (level : HeadingLevel) → found.level ≡ Some level → HasText (content_of outer.containers words before)
        → Underlines outer.containers words before level line
    underlines_so level so text =
        ((is.ends.0, subst (λ l. IsUnderOrDefines outer.extensions l (rest_in outer.containers line)) so is.ends.1), text)

    pub defines_so : found.level ≡ None → HasText (content_of outer.containers words before)
        → LeavesAfter outer words before line × ((level : HeadingLevel) → ¬ Underlines outer.containers words before level line)
    defines_so so text =
        let defines = subst (λ l. IsUnderOrDefines outer.extensions l (rest_in outer.containers line)) so is.ends.1 in (
          inr (is.ends.0, inr (inl (inr defines, text))),
          λ level under. one_of_both outer.extensions (rest_in outer.containers line) level defines under.0.1,
        )

module _ (outer : OpenContainers) (words : List ℕ) where
  module _ (text : List ℕ) (first : Extent) where
    -- the lines after the first, with none of which on the paragraph ends
    abbrev pub Reached : Extent → Type 0
    Reached taken =
        (line : List ℕ) → IsTaken text first (line ∷ [])
        → (later : List (List ℕ)) × IsTaken text taken (line ∷ later)
        × NoneAfter (EndParagraph outer words) [] later (lines_of (drop taken.bytes text))

    -- and one line more, which goes on with the paragraph, if no table begins with it
    abbrev pub ReachedLast : Extent → Extent → Type 0
    ReachedLast before taken =
        (line : List ℕ) → IsTaken text first (line ∷ [])
        → (later : List (List ℕ)) × (last : List ℕ) × IsTaken text before (line ∷ later) × IsNext text before last taken
        × NoneAfter (EndParagraph outer words) [] later (lines_of (drop before.bytes text)) × (¬ LeavesAfter outer words later last)

    pub reached-first : Reached first
    reached-first line h = ([], h, tt)

    pub reached-second : (second : Extent) (l : List ℕ) → IsNext text first l second → ¬ LeavesAfter outer words [] l → ReachedLast first second
    reached-second second l n goes line h = ([], l, h, n, tt, goes)

    pub reached-more : (taken more : Extent) (l : List ℕ) → Reached taken → IsNext text taken l more
        → ((line : List ℕ) (later : List (List ℕ)) → IsTaken text first (line ∷ []) → IsTaken text taken (line ∷ later) → ¬ LeavesAfter outer words later l)
        → ReachedLast taken more
    reached-more taken more l reached n goes line h =
        let r = reached line h in (r.0, l, r.1, n, r.2, goes line r.0 h r.1)

    -- no table begins with that line
    pub reached-last : (before taken : Extent) → ReachedLast before taken
        → ((last : List ℕ) → lines_of (drop before.bytes text) ≡ last ∷ lines_of (drop taken.bytes text)
        → ¬ BeginTable outer (last ∷ lines_of (drop taken.bytes text)))
        → Reached taken
    reached-last before taken reached no_table line h = by (reached line h)
      where
        by : (later : List (List ℕ)) × (last : List ℕ) × IsTaken text before (line ∷ later) × IsNext text before last taken
            × NoneAfter (EndParagraph outer words) [] later (lines_of (drop before.bytes text)) × (¬ LeavesAfter outer words later last)
            → (later : List (List ℕ)) × IsTaken text taken (line ∷ later)
            × NoneAfter (EndParagraph outer words) [] later (lines_of (drop taken.bytes text))
        by (later, last, all, next, none, goes) = (
          later ++ last ∷ [],
          taken-next text before taken (line ∷ later) last all next,
          none-append (EndParagraph outer words) [] later (last ∷ []) (lines_of (drop taken.bytes text))
              (subst (NoneAfter (EndParagraph outer words) [] later) next.parts none) (stays, tt),
        )
          where
            stays : ¬ EndParagraph outer words later (last ∷ lines_of (drop taken.bytes text))
            stays (inl leaves) = goes leaves
            stays (inr table) = no_table last next.parts table.1

    pub reached-tested : (before taken more : Extent) (l : List ℕ) (begins : Bool) → ReachedLast before taken → IsNext text taken l more → begins ≡ false
        → ((last : List ℕ) (lines : List (List ℕ)) → lines_of (drop before.bytes text) ≡ last ∷ l ∷ lines
        → (IsTrue begins → BeginTable outer (last ∷ l ∷ lines)) × (BeginTable outer (last ∷ l ∷ lines) → IsTrue begins))
        → Reached taken
    reached-tested before taken more l begins reached n not_so tells = reached-last before taken reached none
      where
        none : (last : List ℕ) → lines_of (drop before.bytes text) ≡ last ∷ lines_of (drop taken.bytes text)
            → ¬ BeginTable outer (last ∷ lines_of (drop taken.bytes text))
        none last parts table =
            let two : lines_of (drop before.bytes text) ≡ last ∷ l ∷ lines_of (drop more.bytes text) = parts ∙ ap (λ ls. last ∷ ls) n.parts in
            let passes : begins ≡ true =
            (tells last (lines_of (drop more.bytes text)) two).1 (subst (λ ls. BeginTable outer (last ∷ ls)) n.parts table) in
            let both : true ≡ false = sym passes ∙ not_so in cc

    pub reached-end : (before taken : Extent) → ReachedLast before taken → lines_of (drop taken.bytes text) ≡ [] → Reached taken
    reached-end before taken reached end =
        reached-last before taken reached (λ last parts table. subst (λ ls. BeginTable outer (last ∷ ls)) end table)
