-- Each definition of a term has that before it.
use Rattle.std.proofs.Common.{ℕ, suc, Bool, true, false, IsTrue, ◌&&◌, ◌||◌, ◌==◌, ◌≤◌, ◌≡◌, List, [], ◌∷◌, ◌++◌, length, take, drop}
use Rattle.std.proofs.Common.{Option, Some, None, refl, sym, ap, ◌∙◌, subst, inl, inr, arith, append_assoc}
use Rattle.std.specs.Prelude.{if◌then◌else◌, ⊤}
use Rattle.std.proofs.lemmas.Bool.{eqb-true}
use Rattle.std.proofs.lemmas.List.{length-take}
use Rattle.markdown_scanners_tree.specs.Ascii.{greater_than_sign}
use Rattle.markdown_scanners_tree.specs.Bytes.{begins_with}
use Rattle.markdown_scanners_tree.specs.line.ItemRules.{start_of}
use Rattle.markdown_scanners_tree.specs.line.Outcome.{after_quote, definition_outcome}
use Rattle.markdown_scanners_tree.specs.line.State.{LineState, unscanned, space_within, after_space}
use Rattle.markdown_blocks.specs.blank_lines.BlankLines.{is_blank}
use Rattle.markdown_blocks.specs.blocks.Leaves.{IsBlank, In, OnFirst, OutOr, IsLeaf, IsLeafAfter}
use Rattle.markdown_blocks.specs.blocks.Pages.{Piece, lines_in, root, containers_of, outer_of, opened_by, is_blank_kind, is_blank_between}
use Rattle.markdown_blocks.specs.blocks.Pages.{AreOpened, IsPiece, AreBlocks, IsPage}
use Rattle.markdown_blocks.specs.containers.Containers.{Between, rest_at, asked_first, asked_between, begun_at, match_line, extension_of}
use Rattle.markdown_blocks.specs.containers.Containers.{footnote_by, footnote_of, go_on, item_of, rest_in, term_definition_by, term_definition_of}
use Rattle.markdown_blocks.specs.containers.Containers.{within, without_terms, Opens}
use Rattle.markdown_blocks.specs.containers.Footnotes.{past_footnote, footnote_label}
use Rattle.markdown_blocks.specs.containers.ItemMarkers.{item_outcome}
use Rattle.markdown_blocks.specs.declared.blocks.BlockKind.{BlockKind}
use Rattle.markdown_blocks.specs.declared.blocks.BlockKind.TheVariants.{Blank, Break, Heading, Setext, Indented}
use Rattle.markdown_blocks.specs.declared.blocks.BlockKind.TheVariants.{Fenced, Html, Table, Definition, Paragraph}
use Rattle.markdown_values.specs.declared.values.extensions.Extensions.{Extensions}
use Rattle.markdown_blocks.specs.declared.containers.Container.{Container}
use Rattle.markdown_blocks.specs.declared.containers.Container.TheVariants.{Quote, Item, Footnote, TermDefinition}
use Rattle.markdown_blocks.specs.laws.Terms.{open_after, EndWithTerm, IsOneBlankLine, TermStands, FollowsTerm}
use Rattle.markdown_blocks.specs.laws.Terms.{AreNoDefinitions, BeginAfterTerm, HaveTerms}
use Rattle.markdown_blocks.proofs.blocks.AfterLemmas.{blank_kind}
use Rattle.markdown_blocks.proofs.containers.ContainerLemmas.{step_on}
use Rattle.markdown_blocks.proofs.events.EventLemmas.{kept_fewer}
use Rattle.markdown_blocks.proofs.events.LabelLemmas.{one_is, either_is, begun_is}

-- a definition begins only where it is asked for
abbrev Asks : Extensions → Container → Type 0
Asks asked (TermDefinition definition) = asked.definition_lists ≡ true
Asks asked container = ⊤

asks_any : (asked : Extensions) → asked.definition_lists ≡ true → (c : Container) → Asks asked c
asks_any asked on Quote = tt
asks_any asked on (Item item) = tt
asks_any asked on Footnote = tt
asks_any asked on (TermDefinition definition) = on

module _ (asked : Extensions) where
  abbrev Asked : Container × LineState → Type 0
  Asked r = Asks asked r.0

  item_asks : (answer : Option (ℕ × ℕ × ℕ)) (after : LineState) (r : Container × LineState)
      → item_of (record { answer = answer; state = after }) ≡ Some r → Asked r
  item_asks None after r is = cc
  item_asks (Some a) after r is = one_is Asked _ r is tt

  label_asks : (t : LineState) (label : Option (List ℕ)) (r : Container × LineState) → footnote_by t label ≡ Some r → Asked r
  label_asks t None r is = cc
  label_asks t (Some l) r is = one_is Asked (Footnote, past_footnote l t) r is tt

  footnote_asks : (on : Bool) (t : LineState) (label : Option (List ℕ)) (r : Container × LineState)
      → (if on then footnote_by t label else None) ≡ Some r → Asked r
  footnote_asks true t label r is = label_asks t label r is
  footnote_asks false t label r is = cc

  on_asks : (on : Bool) (found : Option (Container × LineState)) (r : Container × LineState) → (if on then found else None) ≡ Some r → on ≡ true
  on_asks true found r is = refl
  on_asks false found r is = cc

  begun_asks : (s : LineState) (r : Container × LineState) → begun_at asked s ≡ Some r → Asked r
  begun_asks s =
      let t = after_space 4 s in
      let n = space_within 4 s in
      begun_is Asked (n == 4) (begins_with (λ b. b == greater_than_sign) (unscanned t)) (Some (Quote, after_quote t)) _
      (λ r is. one_is Asked (Quote, after_quote t) r is tt)
      (either_is Asked (item_of (item_outcome n t)) (extension_of asked n t) (item_asks (item_outcome n t).answer (item_outcome n t).state)
      (either_is Asked (footnote_of asked t) (term_definition_of asked n t) (footnote_asks asked.footnotes t (footnote_label (unscanned t)))
      (λ r is. asks_any asked (on_asks asked.definition_lists (term_definition_by (definition_outcome n t)) r is) r.0)))

-- the containers that a line begins
none_inside : (asked : Extensions) (s : LineState) (cs : List Container) (after : LineState) → Opens (without_terms asked) s cs after
    → AreNoDefinitions cs
none_inside asked s [] after o = tt
none_inside asked s (Quote ∷ cs) after o = none_inside asked o.0 cs after o.2
none_inside asked s (Item item ∷ cs) after o = none_inside asked o.0 cs after o.2
none_inside asked s (Footnote ∷ cs) after o = none_inside asked o.0 cs after o.2
none_inside asked s (TermDefinition definition ∷ cs) after o =
    let on : false ≡ true = begun_asks (without_terms asked) s (TermDefinition definition, o.0) o.1 in cc

follows_by : (asked : Extensions) (term : Bool) (before : List Piece) (ended : List Container) → (IsTrue term → TermStands before)
    → (asked_first asked term ended).definition_lists ≡ true → FollowsTerm before ended
follows_by asked true before [] stands on = stands refl
follows_by asked false before [] stands on = cc
follows_by asked term before (TermDefinition definition ∷ ended) stands on = tt
follows_by asked term before (Quote ∷ ended) stands on = cc
follows_by asked term before (Item item ∷ ended) stands on = cc
follows_by asked term before (Footnote ∷ ended) stands on = cc

begin_by : (asked : Extensions) (term : Bool) (before : List Piece) (ended : List Container) → (IsTrue term → TermStands before) → (s : LineState)
    (cs : List Container) (after : LineState) → Opens (asked_first asked term ended) s cs after → BeginAfterTerm before ended cs
begin_by asked term before ended stands s [] after o = tt
begin_by asked term before ended stands s (Quote ∷ cs) after o = none_inside (asked_first asked term ended) o.0 cs after o.2
begin_by asked term before ended stands s (Item item ∷ cs) after o = none_inside (asked_first asked term ended) o.0 cs after o.2
begin_by asked term before ended stands s (Footnote ∷ cs) after o = none_inside (asked_first asked term ended) o.0 cs after o.2
begin_by asked term before ended stands s (TermDefinition definition ∷ cs) after o = (
  follows_by asked term before ended stands (begun_asks (asked_first asked term ended) s (TermDefinition definition, o.0) o.1),
  none_inside (asked_first asked term ended) o.0 cs after o.2,
)

-- a line goes on with no more containers than there are
kept_most : (blank : Bool) (cs : List Container) (s : LineState) → (go_on blank cs s).kept ≤ length cs
kept_most blank [] s = omega arith
kept_most blank (c ∷ cs) s = by (within c blank s) (λ b t. kept_most b cs t)
  where
    by : (found : Option (Bool × LineState)) → ((b : Bool) (t : LineState) → (go_on b cs t).kept ≤ length cs) → (step_on cs s found).kept ≤ suc (length cs)
    by None more = omega arith
    by (Some r) more = let few = more r.0 r.1 in omega (arith, few)

module _ (before : Between) (piece : Piece) (opened : AreOpened before false piece.first piece.kept piece.begun piece.words) where
  abbrev count : ℕ
  count = (match_line before.containers piece.first).kept

  kept_is : length piece.kept ≡ count
  kept_is =
      let here = ap length opened.goes_on ∙ kept_fewer (take count before.containers) in
      let most = kept_most (is_blank piece.first) before.containers (start_of piece.first) in
      omega (arith, here, most, length-take count before.containers)

  -- a blank line in all of them
  blank_in : piece.kind ≡ Blank → (rest : List (List ℕ)) → IsLeaf (outer_of before piece) piece.kind piece.words piece.later rest
      → length piece.kept ≡ length before.containers → piece.begun ≡ [] → In before.containers IsBlank piece.first
  blank_in kind rest leaf all none =
      let opens : Opens (asked_between before piece.first) (match_line before.containers piece.first).state [] opened.position =
      subst (λ cs. Opens (asked_between before piece.first) (match_line before.containers piece.first).state cs opened.position) none opened.begins in
      let words : piece.words ≡ rest_in before.containers piece.first = opened.is_rest ∙ ap rest_at opens.1 in
      let blank : IsLeaf (outer_of before piece) Blank piece.words piece.later rest =
      subst (λ k. IsLeaf (outer_of before piece) k piece.words piece.later rest) kind leaf in
      (sym kept_is ∙ all, subst IsBlank words blank.0)

-- the containers that its first line begins
begin_piece : (header : Bool) (before : Between) (piece : Piece) → AreOpened before header piece.first piece.kept piece.begun piece.words
    → (done : List Piece) → before.containers ≡ open_after done → (IsTrue before.term → TermStands done)
    → BeginAfterTerm done (drop (length piece.kept) (open_after done)) piece.begun
begin_piece true before piece opened done same stands =
    subst (BeginAfterTerm done (drop (length piece.kept) (open_after done))) (sym opened.begins.0) tt
begin_piece false before piece opened done same stands =
    let kept = (match_line before.containers piece.first).kept in
    let here = begin_by before.extensions before.term done (drop kept before.containers) stands
    (match_line before.containers piece.first).state piece.begun opened.position opened.begins in
    let ended : drop kept before.containers ≡ drop (length piece.kept) (open_after done) =
    ap (λ n. drop n before.containers) (sym (kept_is before piece opened)) ∙ ap (drop (length piece.kept)) same in
    subst (λ cs. BeginAfterTerm done cs piece.begun) ended here

-- the first of these lines is not blank in the containers of the last block, if that is blank
abbrev BlankEnds : List Piece → List (List ℕ) → Type 0
BlankEnds [] lines = ⊤
BlankEnds (last ∷ before) lines = last.kind ≡ Blank → OnFirst (OutOr (containers_of last) (λ r. ¬ IsBlank r)) lines

-- one blank line after a term is not followed by another
one_blank : (before : List Piece) (line : List ℕ) (more : List (List ℕ)) → BlankEnds before (line ∷ more) → In (open_after before) IsBlank line
    → TermStands before → EndWithTerm before
one_blank [] line more ends blank stands = absurd stands
one_blank (last ∷ before) line more ends blank (inl term) = term
one_blank (last ∷ before) line more ends blank (inr (single, term)) = absurd (by (ends single.0))
  where
    by : OutOr (containers_of last) (λ r. ¬ IsBlank r) line → ⊥
    by (inl out) = out blank.0
    by (inr text) = text.1 blank.1

is_blank_of : (kind : BlockKind) → is_blank_kind kind ≡ true → kind ≡ Blank
is_blank_of Blank h = refl
is_blank_of Break h = cc
is_blank_of (Heading level) h = cc
is_blank_of (Setext level) h = cc
is_blank_of Indented h = cc
is_blank_of (Fenced count byte) h = cc
is_blank_of (Html html) h = cc
is_blank_of (Table columns) h = cc
is_blank_of Definition h = cc
is_blank_of Paragraph h = cc

none_of : {A : Type 0} (xs : List A) → (length xs == 0) ≡ true → xs ≡ []
none_of [] h = refl
none_of (x ∷ xs) h = absurd (omega (arith, eqb-true (length (x ∷ xs)) 0 h))

four_parts : (a b c d : Bool) → (a && b && c && d) ≡ true → (a ≡ true) × (b ≡ true) × (c ≡ true) × (d ≡ true)
four_parts true true true true h = (refl, refl, refl, refl)
four_parts true true true false h = cc
four_parts true true false d h = cc
four_parts true false c d h = cc
four_parts false b c d h = cc

single_of : (outer : List Container) (piece : Piece) → is_blank_between outer piece ≡ true → IsOneBlankLine outer piece
single_of outer piece h =
    let p = four_parts (is_blank_kind piece.kind) (length piece.later == 0) (length piece.kept == length outer) (length piece.begun == 0) h in
    (is_blank_of piece.kind p.0, none_of piece.later p.1, eqb-true (length piece.kept) (length outer) p.2, none_of piece.begun p.3)

-- blocks after these ones
stands_after : (done : List Piece) (before : Between) (piece : Piece) (rest : List (List ℕ)) → before.containers ≡ open_after done
    → (IsTrue before.term → TermStands done) → BlankEnds done (piece.first ∷ (piece.later ++ rest)) → IsPiece before piece rest
    → IsTrue (opened_by before piece).term → TermStands (piece ∷ done)
stands_after done before piece rest same stands ends p = by piece.term before.term refl refl
  where
    by : (term stood : Bool) → piece.term ≡ term → before.term ≡ stood → IsTrue (term || (stood && is_blank_between before.containers piece))
        → TermStands (piece ∷ done)
    by true stood is was t = let given = p.is_term.0 is in inl (given.1, given.2)
    by false true is was t =
        let single = single_of before.containers piece t in
        let plain = blank_kind piece.header (outer_of before piece) piece.kind piece.words piece.later rest single.0 p.leaf in
        let opened = subst (λ h. AreOpened before h piece.first piece.kept piece.begun piece.words) plain.0 p.opened in
        let leaf = subst (λ k. IsLeaf (outer_of before piece) k piece.words piece.later rest) (sym single.0) plain.1 in
        let blank = blank_in before piece opened single.0 rest leaf single.2 single.3 in (
        inr (
          subst (λ cs. IsOneBlankLine cs piece) same single,
          one_blank done piece.first (piece.later ++ rest) ends (subst (λ cs. In cs IsBlank piece.first) same blank) (stands was),
        )
        )
    by false false is was t = cc

have_terms : (done : List Piece) (before : Between) (pieces : List Piece) (rest : List (List ℕ)) → before.containers ≡ open_after done
    → (IsTrue before.term → TermStands done) → BlankEnds done (lines_in pieces ++ rest) → AreBlocks before pieces rest → HaveTerms done pieces
have_terms done before [] rest same stands ends each = tt
have_terms done before (piece ∷ later) rest same stands ends each =
    let p = each.0 in
    let joined : lines_in (piece ∷ later) ++ rest ≡ piece.first ∷ (piece.later ++ (lines_in later ++ rest)) =
    append_assoc (piece.first ∷ piece.later) (lines_in later) rest in (
      begin_piece piece.header before piece p.opened done same stands,
      have_terms (piece ∷ done) (opened_by before piece) later rest refl
          (stands_after done before piece (lines_in later ++ rest) same stands (subst (BlankEnds done) joined ends) p)
          (blank_ends piece (lines_in later ++ rest) p.leaf) each.1,
    )
  where
    blank_ends : (piece : Piece) (rest : List (List ℕ)) → IsLeafAfter piece.header (outer_of before piece) piece.kind piece.words piece.later rest
        → piece.kind ≡ Blank → OnFirst (OutOr (containers_of piece) (λ r. ¬ IsBlank r)) rest
    blank_ends piece rest leaf kind =
        let blank = (blank_kind piece.header (outer_of before piece) piece.kind piece.words piece.later rest kind leaf).1 in blank.1.stopped

-- On each page a definition of a term begins after the term, or after another definition of it.
pub definitions_have_terms : (asked : Extensions) (text : List ℕ) (pieces : List Piece) → IsPage asked text pieces → HaveTerms [] pieces
definitions_have_terms asked text pieces page =
    have_terms [] (root asked) pieces [] refl (λ t. cc) tt page.each
