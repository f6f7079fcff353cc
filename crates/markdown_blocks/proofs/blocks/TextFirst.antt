-- A line that begins with text ends a run of blank lines, whatever containers are open.
use Rattle.std.proofs.Common.{ℕ, suc, Bool, true, false, ◌==◌, ◌&&◌, ◌<◌, ◌≡◌, ◌⊎◌, List, [], ◌∷◌, length, drop, Option, Some, None}
use Rattle.std.proofs.Common.{refl, sym, ap, ◌∙◌, inl, inr, arith, append-nil}
use Rattle.std.specs.List.{list_all}
use Rattle.std.proofs.lemmas.Bool.{cases_Bool, eqb-true, eqb-false}
use Rattle.std.proofs.lemmas.Bool.Decides.{nat_tests}
use Rattle.markdown_scanners_tree.specs.Ascii.{greater_than_sign}
use Rattle.markdown_scanners_tree.specs.Bytes.{begins_with, is_line_ending, is_space_or_tab, line_head}
use Rattle.markdown_scanners_tree.specs.line.ItemRules.{start_of}
use Rattle.markdown_scanners_tree.specs.line.State.{LineState, unscanned, rest_of, leading_spaces, space_within, after_space, columns_further}
use Rattle.markdown_scanners_tree.specs.scanners.TextLines.{lines_of, with_first}
use Rattle.markdown_scanners_tree.proofs.line.SpaceLemmas.{none_at_front}
use Rattle.markdown_scanners_tree.proofs.line.StepLemmas.{no_space_taken, rest-none}
use Rattle.markdown_scanners_tree.proofs.line.WrittenLemmas.{head-cons}
use Rattle.markdown_blocks.specs.blank_lines.BlankLines.{is_blank}
use Rattle.markdown_blocks.specs.blocks.Endings.{IsEnd, is_text_byte}
use Rattle.markdown_blocks.specs.blocks.Leaves.{OnFirst}
use Rattle.markdown_blocks.specs.containers.Containers.{LineMatch, OpenContainers, match_line, past_quote, go_on, rest_in, within, within_quote, within_width}
use Rattle.markdown_blocks.specs.declared.blocks.Ending.TheVariants.{Text}
use Rattle.markdown_blocks.specs.declared.containers.Container.{Container}
use Rattle.markdown_blocks.specs.declared.containers.Container.TheVariants.{Quote, Item, Footnote, TermDefinition}
use Rattle.markdown_blocks.specs.declared.taken.Extent.{Extent}
use Rattle.markdown_blocks.proofs.taken.TakenLemmas.{Until}

-- by what the line has of the first container
abbrev goes : List Container → LineState → Option (Bool × LineState) → LineMatch
goes inner s found =
    elim found [
      | Some r ↦ (let more = go_on r.0 inner r.1 in record { kept = suc more.kept; state = more.state })
      | None ↦ record { kept = 0; state = s }
    ]

-- an offset before text passes no container but an item without columns, and stays
module _ (s : LineState) (none : s.pending ≡ 0) (small : s.phase < 4) (plain : begins_with is_space_or_tab (unscanned s) ≡ false)
    (unquoted : begins_with (λ b. b == greater_than_sign) (unscanned s) ≡ false) where
  spaces : leading_spaces (rest_of s) ≡ 0
  spaces = ap leading_spaces (rest-none s none) ∙ none_at_front (unscanned s) s.phase plain

  stays : (n : ℕ) → after_space n s ≡ s
  stays n =
      let zero : space_within n s ≡ space_within 0 s = omega (arith, spaces) in
      ap (λ t. columns_further t s) zero ∙ sym (no_space_taken s small)

  no_quote : (n : ℕ) → past_quote n s ≡ None
  no_quote n = elim (cases_Bool (n == 4)) [ inl far ↦ rw far refl | inr near ↦ rw (near, unquoted) refl ]

  of_width : (begun : Bool) (width : ℕ) → (within_width begun width false s ≡ None) ⊎ (within_width begun width false s ≡ Some (false, s))
  of_width begun width = elim (cases_Bool (space_within width s == width)) [
    | inl there ↦ inr (rw there (ap (λ t. Some (false, t)) (stays width)))
    | inr other ↦ inl (rw other refl)
  ]

  passed : (c : Container) → (within c false s ≡ None) ⊎ (within c false s ≡ Some (false, s))
  passed Quote = inl (ap within_quote (ap (past_quote (space_within 4 s)) (stays 4) ∙ no_quote (space_within 4 s)))
  passed Footnote = of_width false 4
  passed (Item item) = of_width item.starts_blank item.width
  passed (TermDefinition definition) = of_width definition.starts_blank definition.width

  state_stays : (outer : List Container) → (go_on false outer s).kept ≡ length outer → (go_on false outer s).state ≡ s
  state_stays [] all = refl
  state_stays (c ∷ inner) all = elim (passed c) [
    | inl gone ↦ (
        let is : go_on false (c ∷ inner) s ≡ record { kept = 0; state = s } = ap (goes inner s) gone in
        let kept : (go_on false (c ∷ inner) s).kept ≡ 0 = ap (λ (g : LineMatch). g.kept) is in
        absurd (omega (arith, kept, all))
        )
    | inr some ↦ (
        let more = go_on false inner s in
        let is : go_on false (c ∷ inner) s ≡ record { kept = suc more.kept; state = more.state } = ap (goes inner s) some in
        let kept : (go_on false (c ∷ inner) s).kept ≡ suc more.kept = ap (λ (g : LineMatch). g.kept) is in
        ap (λ (g : LineMatch). g.state) is ∙ state_stays inner (omega (arith, kept, all))
        )
  ]

module _ (outer : OpenContainers) (b : ℕ) (text : is_text_byte b ≡ true) where
  no_space : is_space_or_tab b ≡ false
  no_space = grind (arith, nat_tests, text)

  no_ending : is_line_ending b ≡ false
  no_ending = grind (arith, nat_tests, text)

  no_white : is_space_or_tab b ≡ false
  no_white = grind (arith, nat_tests, text)

  no_marker : (b == greater_than_sign) ≡ false
  no_marker = grind (arith, nat_tests, text)

  not_blank : (bs : List ℕ) → is_blank (b ∷ bs) ≡ false
  not_blank bs =
      ap (list_all is_space_or_tab) (head-cons b bs no_ending)
      ∙ ap (λ white. white && list_all is_space_or_tab (line_head bs)) no_white

  ends_there : (line : List ℕ) → IsEnd outer Text (b ∷ line)
  ends_there line =
      let whole = b ∷ line in
      let s = start_of whole in
      let same : match_line outer.containers whole ≡ go_on false outer.containers s =
      ap (λ blank. go_on blank outer.containers s) (not_blank line) in
      elim (cases_Bool ((match_line outer.containers whole).kept == length outer.containers)) [
        | inl all ↦ (
            let inside = eqb-true (match_line outer.containers whole).kept (length outer.containers) all in
            let state : (match_line outer.containers whole).state ≡ s =
            ap (λ (g : LineMatch). g.state) same
            ∙ state_stays s refl (omega arith) no_space no_marker outer.containers (sym (ap (λ (g : LineMatch). g.kept) same) ∙ inside) in
            let rest : (rest_in outer.containers whole).text ≡ whole =
            ap (λ t. unscanned (after_space 4 t)) state ∙ ap unscanned (stays s refl (omega arith) no_space no_marker 4) in
            inr (inside, λ blank. let both : true ≡ false = sym blank ∙ ap is_blank rest ∙ not_blank line in cc)
            )
        | inr few ↦ inl (λ inside. eqb-false (match_line outer.containers whole).kept (length outer.containers) few inside)
      ]

  ends_first : (bs : List ℕ) → OnFirst (IsEnd outer Text) (lines_of (b ∷ bs))
  ends_first bs =
      let lf : (b == 10) ≡ false = grind (arith, nat_tests, text) in
      let cr : (b == 13) ≡ false = grind (arith, nat_tests, text) in
      rw (lf, cr) (by (lines_of bs))
    where
      by : (lines : List (List ℕ)) → OnFirst (IsEnd outer Text) (with_first b lines)
      by [] = ends_there []
      by (line ∷ lines) = ends_there line

-- so no further line is blank
pub none_blank : (text : List ℕ) (first : Extent) (outer : OpenContainers) → begins_with is_text_byte (drop first.bytes text) ≡ true
    → Until (IsEnd outer Text) text first first
none_blank text first outer begins lines h = (
  [],
  rw append-nil h,
  record { none = tt; stopped = by (drop first.bytes text) begins },
)
  where
    by : (rest : List ℕ) → begins_with is_text_byte rest ≡ true → OnFirst (IsEnd outer Text) (lines_of rest)
    by [] is = cc
    by (b ∷ bs) is = ends_first outer b is bs
