-- A block whose end is seen is a block whatever lines follow.
use Rattle.std.proofs.Common.{ℕ, List, [], ◌∷◌, ◌++◌, ◌≡◌, ◌≢◌, ◌⊎◌, ◌↔◌, ap, Bool, true}
use Rattle.std.proofs.Common.{false, IsTrue, inl, inr, refl, sym, ◌∙◌, append_assoc, append-nil, drop, subst, Bor}
use Rattle.std.specs.Prelude.{MatchBool, Option, Some, None, IfSome, IfNone, is_some}
use Rattle.std.specs.List.{AllByRecursion}
use Rattle.std.proofs.lemmas.List.{append_cancel_left}
use Rattle.markdown_scanners_tree.specs.declared.scanners.html_kinds.HtmlBlockKind.{HtmlBlockKind}
use Rattle.markdown_scanners_tree.specs.scanners.TextLines.{lines_of}
use Rattle.markdown_scanners_tree.specs.scanners.html_kinds.HtmlKinds.{ends_before_blank}
use Rattle.markdown_blocks.specs.containers.Containers.{Between, OpenContainers, Rest, IsInside}
use Rattle.markdown_blocks.specs.declared.containers.Container.{Container}
use Rattle.markdown_blocks.specs.declared.blocks.BlockKind.{BlockKind}
use Rattle.markdown_blocks.specs.declared.blocks.BlockKind.TheVariants.{Blank, Break, Heading, Setext, Indented}
use Rattle.markdown_blocks.specs.declared.blocks.BlockKind.TheVariants.{Fenced, Html, Table, Definition, Paragraph}
use Rattle.markdown_blocks.specs.declared.blocks.Ending.TheVariants.{Text}
use Rattle.markdown_blocks.specs.declared.taken.Extent.{Extent}
use Rattle.markdown_blocks.specs.taken.Lines.{IsTaken, IsNext}
use Rattle.markdown_blocks.specs.blocks.Endings.{IsEnd}
use Rattle.markdown_blocks.specs.blocks.Leaves.{BeginsNoTable, IsBlankIn, OnFirst, StopsBefore, StopsAfter, NoMoreIndented, EndsAsHtml, OutOr, IsLeaf}
use Rattle.markdown_blocks.specs.blocks.Leaves.{BeginTable, EndParagraph, EndsHtml, IsLeafAfter, NoneAfter, StopsAt}
use Rattle.markdown_blocks.specs.blocks.Pages.{BeginWithHeader, open_between}
use Rattle.markdown_blocks.specs.blocks.Over.{ShowEnd, IsOver}
use Rattle.markdown_blocks.proofs.blocks.IndentedLemmas.{blank_given}

module _ (outer : OpenContainers) (more : List (List ℕ)) where
  first-over : (P : List ℕ → Type 0) (rest : List (List ℕ)) → rest ≢ [] → OnFirst P rest → OnFirst P (rest ++ more)
  first-over P [] some h = absurd (some refl)
  first-over P (line ∷ rest) some h = h

  before-over : (P : List ℕ → Type 0) (lines rest : List (List ℕ)) → rest ≢ [] → StopsBefore P lines rest → StopsBefore P lines (rest ++ more)
  before-over P lines rest some s = record { none = s.none; stopped = first-over P rest some s.stopped }

  through-over : (P : List ℕ → Type 0) (lines rest : List (List ℕ)) → rest ≢ [] → StopsAfter outer.containers P lines rest
      → StopsAfter outer.containers P lines (rest ++ more)
  through-over P lines rest some (inl h) = inl (h.0, h.1, h.2, record { none = h.3.none; stopped = h.3.stopped }, h.4)
  through-over P lines rest some (inr h) = inr (before-over P lines rest some h.0, first-over (λ line. ¬ IsInside outer.containers line) rest some h.1)

  indented-over : (rest : List (List ℕ)) → ¬ AllByRecursion (IsBlankIn outer.containers) rest → NoMoreIndented outer.containers rest
      → NoMoreIndented outer.containers (rest ++ more)
  indented-over [] some none = absurd (some tt)
  indented-over (line ∷ rest) some (inl h) = inl (h.0, indented-over rest (λ all. some (h.0, all)) h.1)
  indented-over (line ∷ rest) some (inr ends) = inr ends

  in_either : (b : Bool) {A B C D : Type 0} → (A → C) → (B → D) → MatchBool b A B → MatchBool b C D
  in_either true f g h = f h
  in_either false f g h = g h

  html-over : (kind : HtmlBlockKind) (first : Rest) (later rest : List (List ℕ)) → rest ≢ [] → EndsAsHtml outer.containers kind first later rest
      → EndsAsHtml outer.containers kind first later (rest ++ more)
  html-over kind first later rest some ends =
      in_either (ends_before_blank kind) (before-over (OutOr outer.containers (EndsHtml kind)) later rest some) by ends
    where
      by : (EndsHtml kind first × (later ≡ [])) ⊎ ((¬ EndsHtml kind first) × StopsAfter outer.containers (OutOr outer.containers (EndsHtml kind)) later rest)
          → (EndsHtml kind first × (later ≡ [])) ⊎ ((¬ EndsHtml kind first)
          × StopsAfter outer.containers (OutOr outer.containers (EndsHtml kind)) later (rest ++ more))
      by (inl h) = inl h
      by (inr h) = inr (h.0, through-over (OutOr outer.containers (EndsHtml kind)) later rest some h.1)

  table-over : (first : Rest) (later rest : List (List ℕ)) → rest ≢ [] → BeginsNoTable outer first (later ++ rest)
      → BeginsNoTable outer first (later ++ (rest ++ more))
  table-over first [] rest some h = first-over _ rest some h
  table-over first (line ∷ later) rest some h = h

  -- a paragraph, also before a table
  some-after : (lines rest : List (List ℕ)) → rest ≢ [] → lines ++ rest ≢ []
  some-after [] rest some none = some none
  some-after (line ∷ lines) rest some none = cc

  begins-over : (line : List ℕ) (rest : List (List ℕ)) → rest ≢ [] → BeginTable outer (line ∷ (rest ++ more)) → BeginTable outer (line ∷ rest)
  begins-over line [] some table = absurd (some refl)
  begins-over line (next ∷ rest) some table = table

  none-over : (text : List ℕ) (before lines rest : List (List ℕ)) → rest ≢ [] → NoneAfter (EndParagraph outer text) before lines rest
      → NoneAfter (EndParagraph outer text) before lines (rest ++ more)
  none-over text before [] rest some none = tt
  none-over text before (line ∷ lines) rest some none = (by, none-over text (before ++ line ∷ []) lines rest some none.1)
    where
      by : ¬ EndParagraph outer text before (line ∷ (lines ++ (rest ++ more)))
      by (inl leaves) = none.0 (inl leaves)
      by (inr table) = none.0 (inr (
        table.0,
        begins-over line (lines ++ rest) (some-after lines rest some)
            (subst (λ ls. BeginTable outer (line ∷ ls)) (sym (append_assoc lines rest more)) table.1),
      ))

  stopped-over : (text : List ℕ) (lines rest : List (List ℕ)) → rest ≢ [] → (rest ≡ []) ⊎ EndParagraph outer text lines rest
      → ((rest ++ more) ≡ []) ⊎ EndParagraph outer text lines (rest ++ more)
  stopped-over text lines [] some stops = absurd (some refl)
  stopped-over text lines (line ∷ rest) some (inl none) = cc
  stopped-over text lines (line ∷ rest) some (inr (inl leaves)) = inr (inl leaves)
  stopped-over text lines (line ∷ []) some (inr (inr table)) = absurd table.1
  stopped-over text lines (line ∷ next ∷ rest) some (inr (inr table)) = inr (inr table)

  at-over : (text : List ℕ) (lines rest : List (List ℕ)) → rest ≢ [] → StopsAt (EndParagraph outer text) lines rest
      → StopsAt (EndParagraph outer text) lines (rest ++ more)
  at-over text lines rest some stops =
      record { none = none-over text [] lines rest some stops.none; stopped = stopped-over text lines rest some stops.stopped }

  -- the block ends there
  pub leaf-over : (kind : BlockKind) (first : Rest) (later rest : List (List ℕ)) → ShowEnd outer.containers kind rest → IsLeaf outer kind first later rest
      → IsLeaf outer kind first later (rest ++ more)
  leaf-over Blank first later rest some leaf = (leaf.0, before-over _ later rest some leaf.1)
  leaf-over Indented first later rest some leaf =
      (leaf.0, record { inside = leaf.1.inside; last = leaf.1.last; stopped = indented-over rest some leaf.1.stopped })
  leaf-over (Fenced count byte) first later rest some leaf = (leaf.0, through-over _ later rest some leaf.1)
  leaf-over (Html kind) first later rest some leaf = (leaf.0, html-over kind first later rest some leaf.1)
  leaf-over (Table columns) first later rest some leaf =
      (leaf.0, (leaf.1.0, leaf.1.1, leaf.1.2, leaf.1.3, before-over _ leaf.1.1 rest some leaf.1.4))
  leaf-over Paragraph first later rest some leaf = (
    leaf.0,
    table-over first later rest some leaf.1,
    at-over first.text later rest some leaf.2,
    first-over _ rest some leaf.3,
  )
  leaf-over (Setext level) first later rest some leaf =
      (leaf.0, leaf.1, leaf.2, leaf.3, table-over first later rest some leaf.4, at-over first.text leaf.1 (leaf.2 ∷ rest) (λ none. cc) leaf.5, leaf.6)
  leaf-over Break first later rest some leaf = leaf
  leaf-over (Heading level) first later rest some leaf = leaf
  leaf-over Definition first later rest some leaf = leaf

  -- it does so where its end is seen, or where no line follows
  pub leaf-more : (kind : BlockKind) (first : Rest) (later rest : List (List ℕ)) (has_ended : Bool) → IsOver outer.containers kind has_ended rest
      → (IsTrue has_ended → more ≡ []) → IsLeaf outer kind first later rest → IsLeaf outer kind first later (rest ++ more)
  leaf-more kind first later rest has_ended (inl ended) none leaf = rw (none ended, append-nil) leaf
  leaf-more kind first later rest has_ended (inr shown) none leaf = leaf-over kind first later rest shown leaf

  pub leaf_after-more : (header : Bool) (kind : BlockKind) (first : Rest) (later rest : List (List ℕ)) (has_ended : Bool)
      → IsOver outer.containers kind has_ended rest → (IsTrue has_ended → more ≡ []) → IsLeafAfter header outer kind first later rest
      → IsLeafAfter header outer kind first later (rest ++ more)
  leaf_after-more false kind first later rest has_ended over none leaf = leaf-more kind first later rest has_ended over none leaf
  leaf_after-more true (Table columns) first later rest has_ended (inl ended) none leaf = rw (none ended, append-nil) leaf
  leaf_after-more true (Table columns) first later rest has_ended (inr some) none leaf =
      (leaf.0, leaf.1, leaf.2, leaf.3, before-over _ leaf.1 rest some leaf.4)
  leaf_after-more true Blank first later rest has_ended over none leaf = absurd leaf
  leaf_after-more true Break first later rest has_ended over none leaf = absurd leaf
  leaf_after-more true (Heading level) first later rest has_ended over none leaf = absurd leaf
  leaf_after-more true (Setext level) first later rest has_ended over none leaf = absurd leaf
  leaf_after-more true Indented first later rest has_ended over none leaf = absurd leaf
  leaf_after-more true (Fenced count byte) first later rest has_ended over none leaf = absurd leaf
  leaf_after-more true (Html html) first later rest has_ended over none leaf = absurd leaf
  leaf_after-more true Definition first later rest has_ended over none leaf = absurd leaf
  leaf_after-more true Paragraph first later rest has_ended over none leaf = absurd leaf

-- where a block's end is seen the lines after it don't make a header row of its first line, or take that from it
module _ (before : Between) (line : List ℕ) (later more : List (List ℕ)) where
  shown_some : (outer : List Container) (kind : BlockKind) (rest : List (List ℕ)) → ShowEnd outer kind rest → rest ≢ []
  shown_some outer Indented [] shown none = shown tt
  shown_some outer Indented (l ∷ rest) shown none = cc
  shown_some outer Blank rest shown none = shown none
  shown_some outer Break rest shown none = shown none
  shown_some outer (Heading level) rest shown none = shown none
  shown_some outer (Setext level) rest shown none = shown none
  shown_some outer (Fenced count byte) rest shown none = shown none
  shown_some outer (Html html) rest shown none = shown none
  shown_some outer (Table columns) rest shown none = shown none
  shown_some outer Definition rest shown none = shown none
  shown_some outer Paragraph rest shown none = shown none

  header_to : (lines : List (List ℕ)) → lines ≢ [] → BeginWithHeader before (line ∷ lines) → BeginWithHeader before (line ∷ (lines ++ more))
  header_to [] some h = absurd (some refl)
  header_to (next ∷ lines) some h = h

  header_from : (lines : List (List ℕ)) → lines ≢ [] → BeginWithHeader before (line ∷ (lines ++ more)) → BeginWithHeader before (line ∷ lines)
  header_from [] some h = absurd (some refl)
  header_from (next ∷ lines) some h = h

  pub header-more : (header : Bool) (outer : List Container) (kind : BlockKind) (rest : List (List ℕ)) (has_ended : Bool)
      → IsOver outer kind has_ended rest → (IsTrue has_ended → more ≡ []) → IsTrue header ↔ BeginWithHeader before (line ∷ (later ++ rest))
      → IsTrue header ↔ BeginWithHeader before (line ∷ (later ++ (rest ++ more)))
  header-more header outer kind rest has_ended (inl ended) none given = rw (none ended, append-nil) given
  header-more header outer kind rest has_ended (inr shown) none given =
      let some = some-after (open_between before) more later rest (shown_some outer kind rest shown) in
      let joined = append_assoc later rest more in (
        λ t. subst (λ ls. BeginWithHeader before (line ∷ ls)) joined (header_to (later ++ rest) some (given.0 t)),
        λ h. given.1 (header_from (later ++ rest) some (subst (λ ls. BeginWithHeader before (line ∷ ls)) (sym joined) h)),
      )

-- what shows the end
module _ (outer : OpenContainers) (has_ended : Bool) (open_yet : has_ended ≡ false) where
  -- a test of lines
  pub over_given : (kind : BlockKind) (rest : List (List ℕ)) (seen : Bool) → (IsTrue seen → ShowEnd outer.containers kind rest)
      × (ShowEnd outer.containers kind rest → IsTrue seen)
      → (IsTrue seen → IsOver outer.containers kind has_ended rest) × (IsOver outer.containers kind has_ended rest → IsTrue seen)
  over_given kind rest seen tells = (λ t. inr (tells.0 t), by)
    where
      by : IsOver outer.containers kind has_ended rest → IsTrue seen
      by (inl ended) = let both : true ≡ false = sym ended ∙ open_yet in cc
      by (inr shown) = tells.1 shown

  pub any_given : (kind : BlockKind) (rest : List (List ℕ)) (seen : Bool) → kind ≢ Indented → (IsTrue seen → rest ≢ []) × (rest ≢ [] → IsTrue seen)
      → (IsTrue seen → ShowEnd outer.containers kind rest) × (ShowEnd outer.containers kind rest → IsTrue seen)
  any_given Indented rest seen other tells = absurd (other refl)
  any_given Blank rest seen other tells = tells
  any_given Break rest seen other tells = tells
  any_given (Heading level) rest seen other tells = tells
  any_given (Setext level) rest seen other tells = tells
  any_given (Fenced count byte) rest seen other tells = tells
  any_given (Html html) rest seen other tells = tells
  any_given (Table columns) rest seen other tells = tells
  any_given Definition rest seen other tells = tells
  any_given Paragraph rest seen other tells = tells

module _ (outer : OpenContainers) where
  text_given : (line : List ℕ) → IsEnd outer Text line → ¬ IsBlankIn outer.containers line
  text_given line (inl out) blank = out blank.0
  text_given line (inr text) blank = text.1 blank.1

  all-blank : (lines : List (List ℕ)) → AllByRecursion (λ line. ¬ IsEnd outer Text line) lines → AllByRecursion (IsBlankIn outer.containers) lines
  all-blank [] none = tt
  all-blank (line ∷ lines) none = (blank_given outer line none.0, all-blank lines none.1)

  not-blank : (lines : List (List ℕ)) (line : List ℕ) (rest : List (List ℕ)) → ¬ IsBlankIn outer.containers line
      → ¬ AllByRecursion (IsBlankIn outer.containers) (lines ++ line ∷ rest)
  not-blank [] line rest text all = text all.0
  not-blank (blank ∷ lines) line rest text all = not-blank lines line rest text all.1

  -- the lines up to the first with text
  module _ (text : List ℕ) (taken seen : Extent) (lines blanks : List (List ℕ)) (h : IsTaken text taken lines) (s : IsTaken text seen (lines ++ blanks))
      (stops : StopsBefore (IsEnd outer Text) blanks (lines_of (drop seen.bytes text))) where
    after : lines_of (drop taken.bytes text) ≡ blanks ++ lines_of (drop seen.bytes text)
    after = append_cancel_left lines (lines_of (drop taken.bytes text)) (blanks ++ lines_of (drop seen.bytes text))
        (sym h.parts ∙ s.parts ∙ append_assoc lines blanks (lines_of (drop seen.bytes text)))

    text_shows : (line : List ℕ) (rest : List (List ℕ)) → lines_of (drop seen.bytes text) ≡ line ∷ rest
        → ShowEnd outer.containers Indented (lines_of (drop taken.bytes text))
    text_shows line rest is =
        let here : IsEnd outer Text line = rw is at stops.stopped in
        rw (after, is) (not-blank blanks line rest (text_given line here))

    blank_shows : lines_of (drop seen.bytes text) ≡ [] → ¬ ShowEnd outer.containers Indented (lines_of (drop taken.bytes text))
    blank_shows none shown = shown (rw (after, none, append-nil) (all-blank blanks stops.none))

    -- a test whether they go on
    pub seen_given : (found : Option (Bor (List ℕ) × Extent)) (seen_some : Bool) → seen_some ≡ is_some found
        → IfSome found (λ r. IsNext text seen r.0.now r.1) → IfNone found (lines_of (drop seen.bytes text) ≡ [])
        → (IsTrue seen_some → ShowEnd outer.containers Indented (lines_of (drop taken.bytes text)))
        × (ShowEnd outer.containers Indented (lines_of (drop taken.bytes text)) → IsTrue seen_some)
    seen_given (Some r) seen_some is next none = (λ t. text_shows r.0.now _ next.parts, λ shown. is)
    seen_given None seen_some is next none = (λ t. let both : false ≡ true = sym is ∙ t in cc, λ shown. absurd (blank_shows none shown))
