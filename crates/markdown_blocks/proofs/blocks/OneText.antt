-- Lines begin with one paragraph, setext heading or table, and with one block; a page has one list of pieces.
use Rattle.std.proofs.Common.{ℕ, Bool, true, false, IsTrue, ◌↔◌, ◌≡◌, List, [], ◌∷◌, ◌++◌, Option}
use Rattle.std.proofs.Common.{Some, None, refl, sym, ap, ◌∙◌, subst, inl, inr, append_assoc, append-nil}
use Rattle.std.proofs.lemmas.Bool.{cases_Bool}
use Rattle.std.proofs.lemmas.List.{append_cancel_left}
use Rattle.markdown_values.specs.declared.values.HeadingLevel.{HeadingLevel}
use Rattle.markdown_scanners_tree.specs.line.State.{LineState}
use Rattle.markdown_scanners_tree.proofs.ForCallers.{one_underline}
use Rattle.markdown_blocks.specs.containers.Containers.{Between, OpenContainers, Rest, rest_at, rest_in, asked_between, match_line, Opens, without_terms}
use Rattle.markdown_blocks.specs.declared.blocks.BlockKind.{BlockKind}
use Rattle.markdown_blocks.specs.declared.blocks.BlockKind.TheVariants.{Blank, Break, Heading, Setext, Indented}
use Rattle.markdown_blocks.specs.declared.blocks.BlockKind.TheVariants.{Fenced, Html, Table, Definition, Paragraph}
use Rattle.markdown_values.specs.declared.values.extensions.Extensions.{Extensions}
use Rattle.markdown_blocks.specs.declared.containers.Container.{Container}
use Rattle.markdown_blocks.specs.blocks.Leaves.{In, IsUnderline, IsHead, IsRow, BeginsNoTable, OnFirst, StopsAt, EndParagraph, Underlines, IsLeaf, IsLeafAfter, IsTable}
use Rattle.markdown_blocks.specs.blocks.Pages.{Piece, lines_in, containers_of, outer_of, opened_by, AreOpened, BeginWithHeader, IsTerm, IsPiece, AreBlocks, OpensAfter, kept_by}
use Rattle.markdown_blocks.specs.definitions.Content.{content_in}
use Rattle.markdown_blocks.specs.info.Info.{without_front}
use Rattle.markdown_blocks.proofs.blocks.OneFirst.{one_first}
use Rattle.markdown_blocks.proofs.blocks.OneLeaf.{one_end, one_stop, is_text, base, base_text, base_other, begins, one_other}

-- what begins as a paragraph does begins as no other
mixed : (text plain : BlockKind) → is_text text ≡ true → is_text plain ≡ false → base text ≡ base plain → ⊥
unfolding is_text
mixed text plain t f bases =
    let is : Paragraph ≡ plain = sym (base_text text t) ∙ bases ∙ base_other plain f in
    let both : is_text Paragraph ≡ false = subst (λ k. is_text k ≡ false) (sym is) f in cc

module _ (outer : OpenContainers) (first : Rest) where
  -- a table is no paragraph, and no setext heading: the line after its first goes on with a paragraph of that
  head_here : (columns : ℕ) (head : List ℕ) (rows lines rest rest' : List (List ℕ)) → IsHead outer first.text columns head
      → (head ∷ rows) ++ rest ≡ lines ++ rest' → BeginsNoTable outer first (lines ++ rest') → ⊥
  head_here columns head rows lines rest rest' is_head same none =
      let here : BeginsNoTable outer first (head ∷ (rows ++ rest)) = subst (BeginsNoTable outer first) (sym same) none in here columns is_head

  same_level : (level level' : HeadingLevel) (line : List ℕ) → In outer.containers (IsUnderline level) line → In outer.containers (IsUnderline level') line
      → level ≡ level'
  same_level level level' line is is' =
      ap (λ p. p.1) (one_underline (rest_in outer.containers line).text is.1.1 level is'.1.1 level' is.1.2 is'.1.2)

  -- a paragraph is no setext heading
  underlined : (level : HeadingLevel) (lines middle rest rest' : List (List ℕ)) (last : List ℕ) → lines ++ rest ≡ middle ++ last ∷ rest'
      → StopsAt (EndParagraph outer first.text) lines rest → OnFirst (λ l. (n : HeadingLevel) → ¬ Underlines outer.containers first.text lines n l) rest
      → StopsAt (EndParagraph outer first.text) middle (last ∷ rest') → Underlines outer.containers first.text middle level last → ⊥
  underlined level lines middle rest rest' last same stops plain stops' under =
      let one = one_end (EndParagraph outer first.text) lines middle rest (last ∷ rest') same stops stops' in
      let none : OnFirst (λ l. (n : HeadingLevel) → ¬ Underlines outer.containers first.text lines n l) (last ∷ rest') = subst (OnFirst _) one.1 plain in
      none level (subst (λ ls. Underlines outer.containers first.text ls level last) (sym one.0) under)

  joined : (middle lines rest : List (List ℕ)) (last : List ℕ) → lines ≡ middle ++ last ∷ [] → lines ++ rest ≡ middle ++ last ∷ rest
  joined middle lines rest last is = ap (λ ls. ls ++ rest) is ∙ append_assoc middle (last ∷ []) rest

  module _ (a b rest rest' : List (List ℕ)) (same : a ++ rest ≡ b ++ rest') where
    one_table : (columns columns' : ℕ) (text : List ℕ) → IsTable outer text columns a rest → IsTable outer text columns' b rest'
        → (columns ≡ columns') × (a ≡ b)
    one_table columns columns' text table table' =
        let lists : (table.0 ∷ table.1) ++ rest ≡ (table'.0 ∷ table'.1) ++ rest' =
        ap (λ ls. ls ++ rest) (sym table.2) ∙ same ∙ ap (λ ls. ls ++ rest') table'.2 in
        let heads : table.0 ≡ table'.0 = cc in
        let tails : table.1 ++ rest ≡ table'.1 ++ rest' = cc in
        let rows = (one_stop (λ line. ¬ IsRow outer line) table.1 table'.1 rest rest' tails table.4 table'.4).0 in
        (sym table.3.3 ∙ table'.3.3, table.2 ∙ ap (λ l. l ∷ table.1) heads ∙ ap (λ ls. table'.0 ∷ ls) rows ∙ sym table'.2)

    one_text : (kind other : BlockKind) → is_text kind ≡ true → is_text other ≡ true → IsLeaf outer kind first a rest → IsLeaf outer other first b rest'
        → (kind ≡ other) × (a ≡ b)
    unfolding is_text
    one_text Blank other t t' leaf leaf' = cc
    one_text Break other t t' leaf leaf' = cc
    one_text (Heading level) other t t' leaf leaf' = cc
    one_text Indented other t t' leaf leaf' = cc
    one_text (Fenced n byte) other t t' leaf leaf' = cc
    one_text (Html html) other t t' leaf leaf' = cc
    one_text Definition other t t' leaf leaf' = cc
    one_text kind Blank t t' leaf leaf' = cc
    one_text kind Break t t' leaf leaf' = cc
    one_text kind (Heading level) t t' leaf leaf' = cc
    one_text kind Indented t t' leaf leaf' = cc
    one_text kind (Fenced n byte) t t' leaf leaf' = cc
    one_text kind (Html html) t t' leaf leaf' = cc
    one_text kind Definition t t' leaf leaf' = cc
    one_text Paragraph Paragraph t t' leaf leaf' = (refl, (one_end _ a b rest rest' same leaf.2 leaf'.2).0)
    one_text Paragraph (Setext level) t t' leaf leaf' =
        absurd (underlined level a leaf'.1 rest rest' leaf'.2 (same ∙ joined leaf'.1 b rest' leaf'.2 leaf'.3) leaf.2 leaf.3 leaf'.5 leaf'.6)
    one_text Paragraph (Table columns) t t' leaf leaf' =
        absurd (head_here columns leaf'.1.0 leaf'.1.1 a rest' rest leaf'.1.3 (sym (same ∙ ap (λ ls. ls ++ rest') leaf'.1.2)) leaf.1)
    one_text (Setext level) Paragraph t t' leaf leaf' =
        absurd (underlined level b leaf.1 rest' rest leaf.2 (sym same ∙ joined leaf.1 a rest leaf.2 leaf.3) leaf'.2 leaf'.3 leaf.5 leaf.6)
    one_text (Setext level) (Setext level') t t' leaf leaf' =
        let one = one_end (EndParagraph outer first.text) leaf.1 leaf'.1 (leaf.2 ∷ rest) (leaf'.2 ∷ rest')
        (sym (joined leaf.1 a rest leaf.2 leaf.3) ∙ same ∙ joined leaf'.1 b rest' leaf'.2 leaf'.3) leaf.5 leaf'.5 in
        let last : leaf.2 ≡ leaf'.2 = let rests = one.1 in cc in
        let level_is : level ≡ level' = same_level level level' leaf'.2 (subst (In outer.containers (IsUnderline level)) last leaf.6.0) leaf'.6.0 in
        (ap Setext level_is, leaf.3 ∙ ap (λ ls. ls ++ leaf.2 ∷ []) one.0 ∙ ap (λ l. leaf'.1 ++ l ∷ []) last ∙ sym leaf'.3)
    one_text (Setext level) (Table columns) t t' leaf leaf' =
        absurd (head_here columns leaf'.1.0 leaf'.1.1 a rest' rest leaf'.1.3 (sym (same ∙ ap (λ ls. ls ++ rest') leaf'.1.2)) leaf.4)
    one_text (Table columns) Paragraph t t' leaf leaf' =
        absurd (head_here columns leaf.1.0 leaf.1.1 b rest rest' leaf.1.3 (ap (λ ls. ls ++ rest) (sym leaf.1.2) ∙ same) leaf'.1)
    one_text (Table columns) (Setext level) t t' leaf leaf' =
        absurd (head_here columns leaf.1.0 leaf.1.1 b rest rest' leaf.1.3 (ap (λ ls. ls ++ rest) (sym leaf.1.2) ∙ same) leaf'.4)
    one_text (Table columns) (Table columns') t t' leaf leaf' =
        let one = one_table columns columns' first.text leaf.1 leaf'.1 in (ap Table one.0, one.1)

    -- the lines after the first line of a block, and the block's kind
    pub one_leaf : (kind other : BlockKind) → IsLeaf outer kind first a rest → IsLeaf outer other first b rest' → (kind ≡ other) × (a ≡ b)
    one_leaf kind other leaf leaf' =
        let bases = one_first (base kind) (base other) first (begins outer first kind a rest leaf) (begins outer first other b rest' leaf') in
        elim (cases_Bool (is_text kind)) [
          | inl text ↦ elim (cases_Bool (is_text other)) [
            | inl text' ↦ one_text kind other text text' leaf leaf'
            | inr plain' ↦ absurd (mixed kind other text plain' bases)
          ]
          | inr plain ↦ elim (cases_Bool (is_text other)) [
            | inl text' ↦ absurd (mixed other kind text' plain (sym bases))
            | inr plain' ↦ let kinds : kind ≡ other = sym (base_other kind plain) ∙ bases ∙ base_other other plain' in
                (kinds, one_other outer first a b rest rest' same other plain' (subst (λ k. IsLeaf outer k first a rest) kinds leaf) leaf')
          ]
        ]

    -- and where the first line goes on with the paragraph before it
    pub one_leaf_after : (header : Bool) (kind other : BlockKind) → IsLeafAfter header outer kind first a rest → IsLeafAfter header outer other first b rest'
        → (kind ≡ other) × (a ≡ b)
    one_leaf_after false kind other leaf leaf' = one_leaf kind other leaf leaf'
    one_leaf_after true Blank other leaf leaf' = absurd leaf
    one_leaf_after true Break other leaf leaf' = absurd leaf
    one_leaf_after true (Heading level) other leaf leaf' = absurd leaf
    one_leaf_after true (Setext level) other leaf leaf' = absurd leaf
    one_leaf_after true Indented other leaf leaf' = absurd leaf
    one_leaf_after true (Fenced n byte) other leaf leaf' = absurd leaf
    one_leaf_after true (Html html) other leaf leaf' = absurd leaf
    one_leaf_after true Definition other leaf leaf' = absurd leaf
    one_leaf_after true Paragraph other leaf leaf' = absurd leaf
    one_leaf_after true (Table columns) Blank leaf leaf' = absurd leaf'
    one_leaf_after true (Table columns) Break leaf leaf' = absurd leaf'
    one_leaf_after true (Table columns) (Heading level) leaf leaf' = absurd leaf'
    one_leaf_after true (Table columns) (Setext level) leaf leaf' = absurd leaf'
    one_leaf_after true (Table columns) Indented leaf leaf' = absurd leaf'
    one_leaf_after true (Table columns) (Fenced n byte) leaf leaf' = absurd leaf'
    one_leaf_after true (Table columns) (Html html) leaf leaf' = absurd leaf'
    one_leaf_after true (Table columns) Definition leaf leaf' = absurd leaf'
    one_leaf_after true (Table columns) Paragraph leaf leaf' = absurd leaf'
    one_leaf_after true (Table columns) (Table columns') leaf leaf' =
        let one = one_table columns columns' (without_front first.text) leaf leaf' in (ap Table one.0, one.1)

-- the containers that a line begins
one_opening : (asked : Extensions) (s : LineState) (begun begun' : List Container) (after after' : LineState) → Opens asked s begun after
    → Opens asked s begun' after'
    → (begun ≡ begun') × (after ≡ after')
one_opening asked s [] [] after after' o o' = (refl, o.1 ∙ sym o'.1)
one_opening asked s [] (c ∷ begun') after after' o o' = let both : ◌≡◌ {A = Option (Container × LineState)} None (Some (c, o'.0)) = sym o.0 ∙ o'.1 in cc
one_opening asked s (c ∷ begun) [] after after' o o' = let both : ◌≡◌ {A = Option (Container × LineState)} None (Some (c, o.0)) = sym o'.0 ∙ o.1 in cc
one_opening asked s (c ∷ begun) (c' ∷ begun') after after' o o' =
    let both : ◌≡◌ {A = Option (Container × LineState)} (Some (c, o.0)) (Some (c', o'.0)) = sym o.1 ∙ o'.1 in
    let pair : ◌≡◌ {A = Container × LineState} (c, o.0) (c', o'.0) = cc in
    let next : o.0 ≡ o'.0 = ap (λ p. p.1) pair in
    let more = one_opening (without_terms asked) o'.0 begun begun' after after' (subst (λ z. Opens (without_terms asked) z begun after) next o.2) o'.2 in
    (ap (λ p. p.0 ∷ begun) pair ∙ ap (λ cs. c' ∷ cs) more.0, more.1)

one_opening_after : (header : Bool) (asked : Extensions) (s : LineState) (begun begun' : List Container) (after after' : LineState)
    → OpensAfter header asked s begun after → OpensAfter header asked s begun' after' → (begun ≡ begun') × (after ≡ after')
one_opening_after true asked s begun begun' after after' o o' = (o.0 ∙ sym o'.0, o.1 ∙ sym o'.1)
one_opening_after false asked s begun begun' after after' o o' = one_opening asked s begun begun' after after' o o'

-- whether a block may be a term has one answer
pub same_given : (b c : Bool) (P : Type 0) → (IsTrue b → P) × (P → IsTrue b) → (IsTrue c → P) × (P → IsTrue c) → b ≡ c
same_given true c P h h' = sym (h'.1 (h.0 refl))
same_given false true P h h' = h.1 (h'.0 refl)
same_given false false P h h' = refl

-- a piece of lines, and what follows it
module _ (before : Between) where
  -- but for whether it may be a term
  pub one_block : (piece other : Piece) (rest rest' : List (List ℕ)) → (piece.first ∷ piece.later) ++ rest ≡ (other.first ∷ other.later) ++ rest'
      → piece.header ≡ other.header → AreOpened before piece.header piece.first piece.kept piece.begun piece.words
      → IsLeafAfter piece.header (outer_of before piece) piece.kind piece.words piece.later rest
      → AreOpened before other.header other.first other.kept other.begun other.words
      → IsLeafAfter other.header (outer_of before other) other.kind other.words other.later rest'
      → (record piece { term = other.term } ≡ other) × (rest ≡ rest')
  one_block piece other rest rest' same header o is_leaf o' is_leaf' =
      let first : piece.first ≡ other.first = cc in
      let tails : piece.later ++ rest ≡ other.later ++ rest' = cc in
      let kept : piece.kept ≡ other.kept =
      o.goes_on ∙ ap (λ h. kept_by h before piece.first) header ∙ ap (kept_by other.header before) first ∙ sym o'.goes_on in
      let begins : OpensAfter other.header (asked_between before other.first) (match_line before.containers other.first).state piece.begun o.position =
      subst (λ l. OpensAfter other.header (asked_between before l) (match_line before.containers l).state piece.begun o.position) first
      (subst (λ h. OpensAfter h (asked_between before piece.first) (match_line before.containers piece.first).state piece.begun o.position) header o.begins) in
      let opening = one_opening_after other.header (asked_between before other.first) (match_line before.containers other.first).state piece.begun other.begun
      o.position o'.position begins o'.begins in
      let words : piece.words ≡ other.words = o.is_rest ∙ ap rest_at opening.1 ∙ sym o'.is_rest in
      let open_now : containers_of piece ≡ containers_of other =
      ap (λ cs. cs ++ piece.begun) kept ∙ ap (λ cs. other.kept ++ cs) opening.0 in
      let leaf = one_leaf_after (outer_of before other) other.words piece.later other.later rest rest' tails other.header piece.kind other.kind
      (subst (λ h. IsLeafAfter h (outer_of before other) piece.kind other.words piece.later rest) header
      (subst (λ cs. IsLeafAfter piece.header (record { extensions = before.extensions; containers = cs }) piece.kind other.words piece.later rest) open_now
      (subst (λ w. IsLeafAfter piece.header (outer_of before piece) piece.kind w piece.later rest) words is_leaf))) is_leaf' in
      let lines : rest ≡ rest' = append_cancel_left other.later rest rest' (ap (λ ls. ls ++ rest) (sym leaf.1) ∙ tails) in
      (rw (header, kept, opening.0, words, leaf.0, first, leaf.1) refl, lines)

  abbrev Given : Bool → Piece → Type 0
  Given term piece = IsTrue term ↔ IsTerm before.extensions piece.kind (content_in piece.kind (containers_of piece) piece.words.text piece.later)

  pub one_piece : (piece other : Piece) (rest rest' : List (List ℕ))
      → (piece.first ∷ piece.later) ++ rest ≡ (other.first ∷ other.later) ++ rest' → IsPiece before piece rest → IsPiece before other rest'
      → (piece ≡ other) × (rest ≡ rest')
  one_piece piece other rest rest' same p p' =
      let header = same_given piece.header other.header _ (subst (λ ls. IsTrue piece.header ↔ BeginWithHeader before ls) same p.is_header) p'.is_header in
      let one = one_block piece other rest rest' same header p.opened p.leaf p'.opened p'.leaf in
      let given : Given piece.term other = subst (Given piece.term) one.0 p.is_term in
      (ap (λ t. record piece { term = t }) (same_given piece.term other.term _ given p'.is_term) ∙ one.0, one.1)

-- a page
pub one_page : (before : Between) (pieces others : List Piece) → lines_in pieces ≡ lines_in others → AreBlocks before pieces []
    → AreBlocks before others [] → pieces ≡ others
one_page before [] [] same h h' = refl
one_page before [] (other ∷ others) same h h' = cc
one_page before (piece ∷ pieces) [] same h h' = cc
one_page before (piece ∷ pieces) (other ∷ others) same h h' =
    let one = one_piece before piece other (lines_in pieces ++ []) (lines_in others ++ []) (after_piece piece pieces
    ∙ same ∙ sym (after_piece other others)) h.0 h'.0 in
    let between : opened_by before piece ≡ opened_by before other = ap (opened_by before) one.0 in
    let more = one_page (opened_by before other) pieces others (unpadded pieces others one.1)
    (subst (λ b. AreBlocks b pieces []) between h.1) h'.1 in
    ap (λ p. p ∷ pieces) one.0 ∙ ap (λ ps. other ∷ ps) more
  where
    after_piece : (p : Piece) (ps : List Piece) → (p.first ∷ p.later) ++ (lines_in ps ++ []) ≡ lines_in (p ∷ ps)
    after_piece p ps = ap (λ ls. (p.first ∷ p.later) ++ ls) (append-nil (lines_in ps))

    unpadded : (ps qs : List Piece) → lines_in ps ++ [] ≡ lines_in qs ++ [] → lines_in ps ≡ lines_in qs
    unpadded ps qs e = sym (append-nil (lines_in ps)) ∙ e ∙ append-nil (lines_in qs)
