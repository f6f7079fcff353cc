-- Lines begin with one block.
use Rattle.std.proofs.Common.{ℕ, Bool, true, false, ◌≡◌, ◌⊎◌, List, [], ◌∷◌, ◌++◌, refl, sym, ap, ◌∙◌, subst, inl, inr, append_assoc, append-nil}
use Rattle.std.specs.Prelude.{MatchBool}
use Rattle.std.specs.List.{AllByRecursion}
use Rattle.markdown_scanners_tree.specs.declared.scanners.html_kinds.HtmlBlockKind.{HtmlBlockKind}
use Rattle.markdown_scanners_tree.specs.scanners.html_kinds.HtmlKinds.{ends_before_blank}
use Rattle.markdown_blocks.specs.containers.Containers.{OpenContainers, Rest, IsInside}
use Rattle.markdown_blocks.specs.declared.blocks.BlockKind.{BlockKind}
use Rattle.markdown_blocks.specs.declared.blocks.BlockKind.TheVariants.{Blank, Break, Heading, Setext, Indented}
use Rattle.markdown_blocks.specs.declared.blocks.BlockKind.TheVariants.{Fenced, Html, Table, Definition, Paragraph}
use Rattle.markdown_blocks.specs.declared.containers.Container.{Container}
use Rattle.markdown_blocks.specs.blocks.Leaves.{Begins, EndsIndented, NoMoreIndented, LastHasText, GoesOnIndented}
use Rattle.markdown_blocks.specs.blocks.Leaves.{NoneAfter, OnFirst, StopsAt, StopsBefore, StopsAfter, EndsAsHtml, EndsHtml, OutOr, IsLeaf}

-- all lines up to the first that has a property
pub one_stop : (P : List ℕ → Type 0) (a b rest rest' : List (List ℕ)) → a ++ rest ≡ b ++ rest' → StopsBefore P a rest → StopsBefore P b rest'
    → (a ≡ b) × (rest ≡ rest')
one_stop P [] [] rest rest' same s s' = (refl, same)
one_stop P [] (y ∷ b) rest rest' same s s' =
    let here : OnFirst P (y ∷ (b ++ rest')) = subst (OnFirst P) same s.stopped in absurd (s'.none.0 here)
one_stop P (x ∷ a) [] rest rest' same s s' =
    let here : OnFirst P (x ∷ (a ++ rest)) = subst (OnFirst P) (sym same) s'.stopped in absurd (s.none.0 here)
one_stop P (x ∷ a) (y ∷ b) rest rest' same s s' =
    let first : x ≡ y = cc in
    let tails : a ++ rest ≡ b ++ rest' = cc in
    let more = one_stop P a b rest rest' tails (record { none = s.none.1; stopped = s.stopped })
    (record { none = s'.none.1; stopped = s'.stopped }) in
    (rw (first, more.0) refl, more.1)

-- all lines up to the first from which on lines have a property after those before it
no_start : (P : List (List ℕ) → List (List ℕ) → Type 0) (before : List (List ℕ)) (line : List ℕ) (lines rest : List (List ℕ)) → rest ≡ line ∷ lines
    → (rest ≡ []) ⊎ P (before ++ []) rest → ¬ (¬ P before (line ∷ lines))
no_start P before line lines rest is (inl none) other = cc
no_start P before line lines rest is (inr here) other = other (subst (P before) is (rw append-nil at here))

one_at : (P : List (List ℕ) → List (List ℕ) → Type 0) (before a b rest rest' : List (List ℕ)) → a ++ rest ≡ b ++ rest'
    → NoneAfter P before a rest → (rest ≡ []) ⊎ P (before ++ a) rest → NoneAfter P before b rest' → (rest' ≡ []) ⊎ P (before ++ b) rest'
    → (a ≡ b) × (rest ≡ rest')
one_at P before [] [] rest rest' same none stops none' stops' = (refl, same)
one_at P before [] (y ∷ b) rest rest' same none stops none' stops' = absurd (no_start P before y (b ++ rest') rest same stops none'.0)
one_at P before (x ∷ a) [] rest rest' same none stops none' stops' = absurd (no_start P before x (a ++ rest) rest' (sym same) stops' none.0)
one_at P before (x ∷ a) (y ∷ b) rest rest' same none stops none' stops' =
    let first : x ≡ y = cc in
    let tails : a ++ rest ≡ b ++ rest' = cc in
    let after : (ls : List (List ℕ)) → before ++ x ∷ ls ≡ (before ++ x ∷ []) ++ ls = λ ls. sym (append_assoc before (x ∷ []) ls) in
    let front : before ++ y ∷ [] ≡ before ++ x ∷ [] = ap (λ l. before ++ l ∷ []) (sym first) in
    let here : (rest' ≡ []) ⊎ P ((before ++ x ∷ []) ++ b) rest' =
    subst (λ ls. (rest' ≡ []) ⊎ P ls rest') (ap (λ l. before ++ l ∷ b) (sym first) ∙ after b) stops' in
    let more = one_at P (before ++ x ∷ []) a b rest rest' tails none.1 (subst (λ ls. (rest ≡ []) ⊎ P ls rest) (after a) stops)
    (subst (λ ls. NoneAfter P ls b rest') front none'.1) here in
    (rw (first, more.0) refl, more.1)

pub one_end : (P : List (List ℕ) → List (List ℕ) → Type 0) (a b rest rest' : List (List ℕ)) → a ++ rest ≡ b ++ rest' → StopsAt P a rest
    → StopsAt P b rest' → (a ≡ b) × (rest ≡ rest')
one_end P a b rest rest' same s s' = one_at P [] a b rest rest' same s.none s.stopped s'.none s'.stopped

-- and that line too, where it stands in the containers
module _ (outer : List Container) where
  with_last : (before lines rest : List (List ℕ)) (last : List ℕ) → lines ≡ before ++ last ∷ [] → lines ++ rest ≡ before ++ last ∷ rest
  with_last before lines rest last is = ap (λ ls. ls ++ rest) is ∙ append_assoc before (last ∷ []) rest

  one_through : (P : List ℕ → Type 0) (a b rest rest' : List (List ℕ)) → a ++ rest ≡ b ++ rest' → StopsAfter outer P a rest
      → StopsAfter outer P b rest' → a ≡ b
  one_through P a b rest rest' same (inl h) (inl h') =
      let one = one_stop P h.0 h'.0 (h.1 ∷ rest) (h'.1 ∷ rest')
      (sym (with_last h.0 a rest h.1 h.2) ∙ same ∙ with_last h'.0 b rest' h'.1 h'.2) h.3 h'.3 in
      let last : h.1 ≡ h'.1 = let rests = one.1 in cc in
      h.2 ∙ ap (λ ls. ls ++ h.1 ∷ []) one.0 ∙ ap (λ l. h'.0 ++ l ∷ []) last ∙ sym h'.2
  one_through P a b rest rest' same (inl h) (inr h') =
      let one = one_stop P h.0 b (h.1 ∷ rest) rest' (sym (with_last h.0 a rest h.1 h.2) ∙ same) h.3 h'.0 in
      let out : OnFirst (λ line. ¬ IsInside outer line) (h.1 ∷ rest) = subst (OnFirst _) (sym one.1) h'.1 in
      absurd (out h.4)
  one_through P a b rest rest' same (inr h) (inl h') =
      let one = one_stop P a h'.0 rest (h'.1 ∷ rest') (same ∙ with_last h'.0 b rest' h'.1 h'.2) h.0 h'.3 in
      let out : OnFirst (λ line. ¬ IsInside outer line) (h'.1 ∷ rest') = subst (OnFirst _) one.1 h.1 in
      absurd (out h'.4)
  one_through P a b rest rest' same (inr h) (inr h') = (one_stop P a b rest rest' same h.0 h'.0).0

  -- indented code
  no_more : (line : List ℕ) (lines rest : List (List ℕ)) → NoMoreIndented outer (line ∷ (lines ++ rest))
      → AllByRecursion (λ l. ¬ EndsIndented outer l) (line ∷ lines) → ¬ LastHasText outer (line ∷ lines)
  no_more line lines rest (inr ends) inside last = absurd (inside.0 ends)
  no_more line [] rest (inl blank) inside last = last blank.0
  no_more line (next ∷ lines) rest (inl blank) inside last = no_more next lines rest blank.1 inside.1 last

  later_text : (line : List ℕ) (lines : List (List ℕ)) → LastHasText outer (line ∷ lines) → LastHasText outer lines
  later_text line [] h = tt
  later_text line (next ∷ lines) h = h

  one_indented : (a b rest rest' : List (List ℕ)) → a ++ rest ≡ b ++ rest' → GoesOnIndented outer a rest → GoesOnIndented outer b rest' → a ≡ b
  one_indented [] [] rest rest' same g g' = refl
  one_indented [] (y ∷ b) rest rest' same g g' = absurd (no_more y b rest' (subst (NoMoreIndented outer) same g.stopped) g'.inside g'.last)
  one_indented (x ∷ a) [] rest rest' same g g' = absurd (no_more x a rest (subst (NoMoreIndented outer) (sym same) g'.stopped) g.inside g.last)
  one_indented (x ∷ a) (y ∷ b) rest rest' same g g' =
      let first : x ≡ y = cc in
      let tails : a ++ rest ≡ b ++ rest' = cc in
      let more = one_indented a b rest rest' tails
      (record { inside = g.inside.1; last = later_text x a g.last; stopped = g.stopped })
      (record { inside = g'.inside.1; last = later_text y b g'.last; stopped = g'.stopped }) in
      rw (first, more) refl

  -- an HTML block
  matched : {A B C D P : Type 0} (t : Bool) → MatchBool t A B → MatchBool t C D → (A → C → P) → (B → D → P) → P
  matched true h h' first second = first h h'
  matched false h h' first second = second h h'

  one_html : (kind : HtmlBlockKind) (first : Rest) (a b rest rest' : List (List ℕ)) → a ++ rest ≡ b ++ rest' → EndsAsHtml outer kind first a rest
      → EndsAsHtml outer kind first b rest' → a ≡ b
  one_html kind first a b rest rest' same h h' =
      matched (ends_before_blank kind) h h' (λ s s'. (one_stop _ a b rest rest' same s s').0) by
    where
      by : (EndsHtml kind first × (a ≡ [])) ⊎ ((¬ EndsHtml kind first) × StopsAfter outer (OutOr outer (EndsHtml kind)) a rest)
          → (EndsHtml kind first × (b ≡ [])) ⊎ ((¬ EndsHtml kind first) × StopsAfter outer (OutOr outer (EndsHtml kind)) b rest') → a ≡ b
      by (inl e) (inl e') = e.1 ∙ sym e'.1
      by (inl e) (inr e') = absurd (e'.0 e.0)
      by (inr e) (inl e') = absurd (e.0 e'.0)
      by (inr e) (inr e') = one_through _ a b rest rest' same e.1 e'.1

-- blocks that begin as a paragraph does
unfoldable pub is_text : BlockKind → Bool
is_text (Setext level) = true
is_text (Table columns) = true
is_text Paragraph = true
is_text kind = false

pub base : BlockKind → BlockKind
base (Setext level) = Paragraph
base (Table columns) = Paragraph
base kind = kind

pub base_text : (kind : BlockKind) → is_text kind ≡ true → base kind ≡ Paragraph
unfolding is_text base
base_text Blank h = cc
base_text Break h = cc
base_text (Heading level) h = cc
base_text (Setext level) h = refl
base_text Indented h = cc
base_text (Fenced n byte) h = cc
base_text (Html html) h = cc
base_text (Table columns) h = refl
base_text Definition h = cc
base_text Paragraph h = refl

pub base_other : (kind : BlockKind) → is_text kind ≡ false → base kind ≡ kind
unfolding is_text base
base_other Blank h = refl
base_other Break h = refl
base_other (Heading level) h = refl
base_other (Setext level) h = cc
base_other Indented h = refl
base_other (Fenced n byte) h = refl
base_other (Html html) h = refl
base_other (Table columns) h = cc
base_other Definition h = refl
base_other Paragraph h = cc

module _ (outer : OpenContainers) (first : Rest) where
  pub begins : (kind : BlockKind) (lines rest : List (List ℕ)) → IsLeaf outer kind first lines rest → Begins (base kind) first
  unfolding base
  begins Blank lines rest leaf = leaf.0
  begins Break lines rest leaf = leaf.0
  begins (Heading level) lines rest leaf = leaf.0
  begins (Setext level) lines rest leaf = leaf.0
  begins Indented lines rest leaf = leaf.0
  begins (Fenced n byte) lines rest leaf = leaf.0
  begins (Html html) lines rest leaf = leaf.0
  begins (Table columns) lines rest leaf = leaf.0
  begins Definition lines rest leaf = leaf.0
  begins Paragraph lines rest leaf = leaf.0

  module _ (a b rest rest' : List (List ℕ)) (same : a ++ rest ≡ b ++ rest') where
    -- of one kind
    pub one_other : (kind : BlockKind) → is_text kind ≡ false → IsLeaf outer kind first a rest → IsLeaf outer kind first b rest' → a ≡ b
    unfolding is_text
    one_other Blank h leaf leaf' = (one_stop _ a b rest rest' same leaf.1 leaf'.1).0
    one_other Break h leaf leaf' = leaf.1 ∙ sym leaf'.1
    one_other (Heading level) h leaf leaf' = leaf.1 ∙ sym leaf'.1
    one_other (Setext level) h leaf leaf' = cc
    one_other Indented h leaf leaf' = one_indented outer.containers a b rest rest' same leaf.1 leaf'.1
    one_other (Fenced n byte) h leaf leaf' = one_through outer.containers _ a b rest rest' same leaf.1 leaf'.1
    one_other (Html html) h leaf leaf' = one_html outer.containers html first a b rest rest' same leaf.1 leaf'.1
    one_other (Table columns) h leaf leaf' = cc
    one_other Definition h leaf leaf' = leaf.1 ∙ sym leaf'.1
    one_other Paragraph h leaf leaf' = cc
