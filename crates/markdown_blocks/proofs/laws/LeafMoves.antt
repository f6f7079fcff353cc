-- Where lines have after their containers what other lines have after others, they are the same block.
use Rattle.std.proofs.Common.{ℕ, Bool, true, false, ◌≡◌, ◌⊎◌, ◌↔◌, List, [], ◌∷◌}
use Rattle.std.proofs.Common.{◌++◌, None, refl, sym, ap, ◌∙◌, subst, inl, inr, append_assoc, append-nil}
use Rattle.std.specs.Prelude.{⊤, IsTrue, MatchBool}
use Rattle.std.specs.List.{AllByRecursion, AllZip, flat_map}
use Rattle.std.proofs.lemmas.List.Concat.{flat_map-append}
use Rattle.markdown_values.specs.declared.values.HeadingLevel.{HeadingLevel}
use Rattle.markdown_scanners_tree.specs.declared.scanners.html_kinds.HtmlBlockKind.{HtmlBlockKind}
use Rattle.markdown_scanners_tree.specs.scanners.html_kinds.HtmlKinds.{ends_before_blank}
use Rattle.markdown_blocks.specs.containers.Containers.{OpenContainers, Rest, rest_in, asked_in, begun_at, match_line, IsInside, without_terms}
use Rattle.markdown_blocks.specs.declared.blocks.BlockKind.{BlockKind}
use Rattle.markdown_blocks.specs.declared.blocks.BlockKind.TheVariants.{Blank, Break, Heading, Setext, Indented}
use Rattle.markdown_blocks.specs.declared.blocks.BlockKind.TheVariants.{Fenced, Html, Table, Definition, Paragraph}
use Rattle.markdown_values.specs.declared.values.extensions.Extensions.{Extensions}
use Rattle.markdown_blocks.specs.declared.containers.Container.{Container}
use Rattle.markdown_blocks.specs.blocks.Pages.{IsTerm}
use Rattle.markdown_blocks.specs.delimiter_rows.DelimiterRows.{IsDelimiter}
use Rattle.markdown_blocks.specs.blocks.Leaves.{IsBlank, HasIndent, Begins, EndsParagraph, ClosesFence, EndsHtml}
use Rattle.markdown_blocks.specs.blocks.Leaves.{IsUnderline, Interrupts, IsLazy, In, OutOr, Leaves}
use Rattle.markdown_blocks.specs.blocks.Leaves.{EndsContent, LeavesParagraph, Underlines, IsHead, IsRow}
use Rattle.markdown_blocks.specs.info.Info.{without_front}
use Rattle.markdown_blocks.specs.definitions.Content.{content_in, content_of, words_in}
use Rattle.markdown_blocks.specs.definitions.Definitions.{HasText}
use Rattle.markdown_blocks.specs.blocks.Leaves.{BeginsNoTable, BeginTable, EndParagraph, IsLeafAfter, IsTable, LeavesAfter, NoneAfter, OnFirst, StopsAt, StopsBefore}
use Rattle.markdown_blocks.specs.blocks.Leaves.{StopsAfter, EndsIndented, NoMoreIndented, LastHasText, EndsAsHtml, IsLeaf}
use Rattle.markdown_blocks.proofs.laws.AlikeLemmas.{Alike, alike_back, same_rest}
use Rattle.markdown_blocks.proofs.laws.SameContainers.{alike_none, same_begun}

-- what is read of the second line after the other containers is what is read of the first after these
pub record Moves (outer other : OpenContainers) (line moved : List ℕ) : Type 0 where
  pub same : outer.extensions ≡ other.extensions
  pub asked : asked_in outer line ≡ asked_in other moved
  pub inside : IsInside outer.containers line ↔ IsInside other.containers moved
  pub state : Alike (match_line outer.containers line).state (match_line other.containers moved).state

pub moves_back : (outer other : OpenContainers) (line moved : List ℕ) → Moves outer other line moved → Moves other outer moved line
moves_back outer other line moved m =
    record { same = sym m.same; asked = sym m.asked; inside = (m.inside.1, m.inside.0); state = alike_back _ _ m.state }

-- what is given of one line
module _ (outer other : OpenContainers) (line moved : List ℕ) (m : Moves outer other line moved) where
  rest_moves : rest_in outer.containers line ≡ rest_in other.containers moved
  rest_moves = same_rest _ _ m.state

  none_moves_on : (asked : Extensions) → begun_at asked (match_line outer.containers line).state ≡ None
      → begun_at asked (match_line other.containers moved).state ≡ None
  none_moves_on asked = alike_none _ _ (same_begun asked _ _ m.state)

  in_moves : (P : Rest → Type 0) → In outer.containers P line → In other.containers P moved
  in_moves P h = (m.inside.0 h.0, subst P rest_moves h.1)

  out_moves : (P : Rest → Type 0) → OutOr outer.containers P line → OutOr other.containers P moved
  out_moves P (inl out) = inl (λ i. out (m.inside.1 i))
  out_moves P (inr here) = inr (in_moves P here)

  lazy_moves : IsLazy (asked_in outer line) (match_line outer.containers line).state → IsLazy (asked_in other moved) (match_line other.containers moved).state
  lazy_moves h = subst (λ x. IsLazy x (match_line other.containers moved).state) m.asked (
    none_moves_on (asked_in outer line) h.0,
    subst (λ (r : Rest). ¬ IsBlank r) rest_moves h.1,
    subst (λ (r : Rest). HasIndent r ⊎ (¬ Interrupts (asked_in outer line) r.text)) rest_moves h.2,
  )

  row_moves : IsRow outer line → IsRow other moved
  row_moves h = (
    subst (λ x. begun_at (without_terms x) (match_line other.containers moved).state ≡ None) m.same (none_moves_on (without_terms outer.extensions) h.0),
    in_moves (Begins Paragraph) h.1,
  )

pub leaves_by : (outer other : OpenContainers) (line moved : List ℕ) → Moves outer other line moved → (P : Rest → Type 0)
    → Leaves outer P line → Leaves other P moved
leaves_by outer other line moved m P (inl h) =
    inl (λ i. h.0 (m.inside.1 i), λ lazy. h.1 (lazy_moves other outer moved line (moves_back outer other line moved m) lazy))
leaves_by outer other line moved m P (inr h) = inr (in_moves outer other line moved m P h)

leaves_moves : (outer other : OpenContainers) (line moved : List ℕ) → Moves outer other line moved → LeavesParagraph outer line → LeavesParagraph other moved
leaves_moves outer other line moved m h =
    subst (λ x. Leaves other (EndsParagraph x) moved) m.same (leaves_by outer other line moved m (EndsParagraph outer.extensions) h)

content_leaves : (outer other : OpenContainers) (line moved : List ℕ) → Moves outer other line moved → (content : List ℕ)
    → Leaves outer (EndsContent outer.extensions content) line → Leaves other (EndsContent other.extensions content) moved
content_leaves outer other line moved m content h =
    subst (λ x. Leaves other (EndsContent x content) moved) m.same (leaves_by outer other line moved m (EndsContent outer.extensions content) h)

head_moves : (outer other : OpenContainers) (line moved : List ℕ) → Moves outer other line moved → (text : List ℕ) (columns : ℕ)
    → IsHead outer text columns line → IsHead other text columns moved
head_moves outer other line moved m text columns h = (
  subst (λ x. x.tables ≡ true) m.same h.0,
  λ leaves. h.1 (leaves_moves other outer moved line (moves_back outer other line moved m) leaves),
  in_moves outer other line moved m (IsDelimiter columns) h.2,
  h.3,
)

-- the first two of two lists of lines, if either has one
abbrev pub FirstTwo : (List ℕ → List ℕ → Type 0) → List (List ℕ) → List (List ℕ) → Type 0
FirstTwo R [] [] = ⊤
FirstTwo R [] (moved ∷ others) = ⊥
FirstTwo R (line ∷ lines) [] = ⊥
FirstTwo R (line ∷ lines) (moved ∷ others) = R line moved

module _ (R : List ℕ → List ℕ → Type 0) where
  all_moves : (P Q : List ℕ → Type 0) → ((line moved : List ℕ) → R line moved → P line → Q moved) → (lines others : List (List ℕ))
      → AllZip R lines others → AllByRecursion P lines → AllByRecursion Q others
  all_moves P Q to [] [] z h = tt
  all_moves P Q to [] (moved ∷ others) z h = absurd z
  all_moves P Q to (line ∷ lines) [] z h = absurd z
  all_moves P Q to (line ∷ lines) (moved ∷ others) z h = (to line moved z.0 h.0, all_moves P Q to lines others z.1 h.1)

  first_moves : (P Q : List ℕ → Type 0) → ((line moved : List ℕ) → R line moved → P line → Q moved) → (lines others : List (List ℕ))
      → FirstTwo R lines others → OnFirst P lines → OnFirst Q others
  first_moves P Q to [] [] two h = tt
  first_moves P Q to [] (moved ∷ others) two h = absurd two
  first_moves P Q to (line ∷ lines) [] two h = absurd two
  first_moves P Q to (line ∷ lines) (moved ∷ others) two h = to line moved two h

  pub two_moves : (S : List ℕ → List ℕ → Type 0) → ((line moved : List ℕ) → R line moved → S line moved) → (lines others rest after : List (List ℕ))
      → AllZip S lines others → FirstTwo R rest after → FirstTwo S (lines ++ rest) (others ++ after)
  two_moves S to [] [] [] [] z two = tt
  two_moves S to [] [] [] (moved ∷ after) z two = absurd two
  two_moves S to [] [] (line ∷ rest) [] z two = absurd two
  two_moves S to [] [] (line ∷ rest) (moved ∷ after) z two = to line moved two
  two_moves S to [] (moved ∷ others) rest after z two = absurd z
  two_moves S to (line ∷ lines) [] rest after z two = absurd z
  two_moves S to (line ∷ lines) (moved ∷ others) rest after z two = z.0

  none_moves : (lines others : List (List ℕ)) → lines ≡ [] → AllZip R lines others → others ≡ []
  none_moves [] [] none z = refl
  none_moves [] (moved ∷ others) none z = absurd z
  none_moves (line ∷ lines) others none z = cc

  zip_last : (before : List (List ℕ)) (last : List ℕ) (others : List (List ℕ)) → AllZip R (before ++ last ∷ []) others
      → (before' : List (List ℕ)) × (last' : List ℕ) × (others ≡ before' ++ last' ∷ []) × AllZip R before before' × R last last'
  zip_last [] last [] z = absurd z
  zip_last [] last (moved ∷ []) z = ([], moved, refl, tt, z.0)
  zip_last [] last (moved ∷ next ∷ others) z = absurd z.1
  zip_last (line ∷ before) last [] z = absurd z
  zip_last (line ∷ before) last (moved ∷ others) z =
      let more = zip_last before last others z.1 in
      (moved ∷ more.0, more.1, ap (λ ls. moved ∷ ls) more.2, (z.0, more.3), more.4)

stops_moves : (R S : List ℕ → List ℕ → Type 0) (P Q : List ℕ → Type 0) → ((line moved : List ℕ) → R line moved → Q moved → P line)
    → ((line moved : List ℕ) → S line moved → P line → Q moved) → (lines others rest after : List (List ℕ)) → AllZip R lines others
    → FirstTwo S rest after → StopsBefore P lines rest → StopsBefore Q others after
stops_moves R S P Q from to lines others rest after z two stops = record {
  none = all_moves R (λ line. ¬ P line) (λ moved. ¬ Q moved) (λ line moved r none q. none (from line moved r q)) lines others z stops.none;
  stopped = first_moves S P Q to rest after two stops.stopped;
}

module _ (outer other : OpenContainers) where
  -- the lines after a block: none but the first needs to be read as before, where it stands outside
  pub record Follows (rest after : List (List ℕ)) : Type 0 where
    pub first : FirstTwo (Moves outer other) rest after
    pub each : AllZip (λ line moved. Moves outer other line moved ⊎ (¬ IsInside other.containers moved)) rest after

  -- a line after the first of a block of this kind, which may be a lazy one in a paragraph
  abbrev pub LaterMoves : BlockKind → List ℕ → List ℕ → Type 0
  LaterMoves kind line moved =
      Moves outer other line moved
      ⊎ ((kind ≡ Paragraph) × (¬ IsInside other.containers moved) × IsLazy (asked_in other moved) (match_line other.containers moved).state
      × (words_in outer.containers line ≡ words_in other.containers moved))

  -- such a line, or one that is read as the other, or not in the containers
  abbrev pub MovesOrOut : List ℕ → List ℕ → Type 0
  MovesOrOut line moved = Moves outer other line moved ⊎ (¬ IsInside other.containers moved)

  all_either : (kind : BlockKind) (lines others : List (List ℕ)) → AllZip (LaterMoves kind) lines others → AllZip MovesOrOut lines others
  all_either kind [] [] z = tt
  all_either kind [] (moved ∷ others) z = absurd z
  all_either kind (line ∷ lines) [] z = absurd z
  all_either kind (line ∷ lines) (moved ∷ others) z = (by z.0, all_either kind lines others z.1)
    where
      by : LaterMoves kind line moved → MovesOrOut line moved
      by (inl m) = inl m
      by (inr lazy) = inr lazy.1

  all_move : (kind : BlockKind) → ¬ (kind ≡ Paragraph) → (lines others : List (List ℕ)) → AllZip (LaterMoves kind) lines others
      → AllZip (Moves outer other) lines others
  all_move kind plain [] [] z = tt
  all_move kind plain [] (moved ∷ others) z = absurd z
  all_move kind plain (line ∷ lines) [] z = absurd z
  all_move kind plain (line ∷ lines) (moved ∷ others) z = (by z.0, all_move kind plain lines others z.1)
    where
      by : LaterMoves kind line moved → Moves outer other line moved
      by (inl m) = m
      by (inr lazy) = absurd (plain lazy.0)

  -- back and forth
  module _ (line moved : List ℕ) (m : Moves outer other line moved) where
    out_back : (P : Rest → Type 0) → OutOr other.containers P moved → OutOr outer.containers P line
    out_back P = out_moves other outer moved line (moves_back outer other line moved m) P

    in_back : (P : Rest → Type 0) → In other.containers P moved → In outer.containers P line
    in_back P = in_moves other outer moved line (moves_back outer other line moved m) P

    leaves_back : LeavesParagraph other moved → LeavesParagraph outer line
    leaves_back = leaves_moves other outer moved line (moves_back outer other line moved m)

  module _ (P : Rest → Type 0) (lines others rest after : List (List ℕ)) (z : AllZip (Moves outer other) lines others)
      (two : FirstTwo (Moves outer other) rest after) where
    out_stops : StopsBefore (OutOr outer.containers P) lines rest → StopsBefore (OutOr other.containers P) others after
    out_stops = stops_moves (Moves outer other) (Moves outer other) (OutOr outer.containers P) (OutOr other.containers P) (λ l k m h. out_back l k m P h)
        (λ l k m h. out_moves outer other l k m P h) lines others rest after z two

    out_through : StopsAfter outer.containers (OutOr outer.containers P) lines rest → StopsAfter other.containers (OutOr other.containers P) others after
    out_through (inl h) =
        let zipped : AllZip (Moves outer other) (h.0 ++ h.1 ∷ []) others = subst (λ ls. AllZip (Moves outer other) ls others) h.2 z in
        let cut = zip_last (Moves outer other) h.0 h.1 others zipped in
        inl (
          cut.0,
          cut.1,
          cut.2,
          stops_here h.0 cut.0 h.1 cut.1 cut.3 cut.4 h.3,
          cut.4.inside.0 h.4,
        )
      where
        stops_here : (before before' : List (List ℕ)) (last last' : List ℕ) → AllZip (Moves outer other) before before' → Moves outer other last last'
            → StopsBefore (OutOr outer.containers P) before (last ∷ rest) → StopsBefore (OutOr other.containers P) before' (last' ∷ after)
        stops_here before before' last last' zs m =
            stops_moves (Moves outer other) (Moves outer other) (OutOr outer.containers P) (OutOr other.containers P) (λ l k n h. out_back l k n P h)
            (λ l k n h. out_moves outer other l k n P h) before before' (last ∷ rest) (last' ∷ after) zs m
    out_through (inr h) = inr (
      out_stops h.0,
      first_moves (Moves outer other) (λ l. ¬ IsInside outer.containers l) (λ l. ¬ IsInside other.containers l)
          (λ l k m out i. out (m.inside.1 i)) rest after two h.1,
    )

  -- indented code
  last_moves : (lines others : List (List ℕ)) → AllZip (Moves outer other) lines others → LastHasText outer.containers lines
      → LastHasText other.containers others
  last_moves [] [] z h = tt
  last_moves [] (moved ∷ others) z h = absurd z
  last_moves (line ∷ lines) [] z h = absurd z
  last_moves (line ∷ []) (moved ∷ []) z h = λ blank. h (in_back line moved z.0 IsBlank blank)
  last_moves (line ∷ []) (moved ∷ next ∷ others) z h = absurd z.1
  last_moves (line ∷ next ∷ lines) (moved ∷ []) z h = absurd z.1
  last_moves (line ∷ next ∷ lines) (moved ∷ next' ∷ others) z h = last_moves (next ∷ lines) (next' ∷ others) z.1 h

  more_moves : (rest after : List (List ℕ)) → AllZip (λ line moved. Moves outer other line moved ⊎ (¬ IsInside other.containers moved)) rest after
      → NoMoreIndented outer.containers rest → NoMoreIndented other.containers after
  more_moves [] [] z h = tt
  more_moves [] (moved ∷ after) z h = absurd z
  more_moves (line ∷ rest) [] z h = absurd z
  more_moves (line ∷ rest) (moved ∷ after) (inl m, z) (inl h) =
      inl (in_moves outer other line moved m IsBlank h.0, more_moves rest after z h.1)
  more_moves (line ∷ rest) (moved ∷ after) (inl m, z) (inr h) = inr (out_moves outer other line moved m (λ r. (¬ IsBlank r) × (¬ HasIndent r)) h)
  more_moves (line ∷ rest) (moved ∷ after) (inr out, z) h = inr (inl out)

  -- an HTML block
  match_moves : (b : Bool) {A B C D : Type 0} → (A → C) → (B → D) → MatchBool b A B → MatchBool b C D
  match_moves true f g h = f h
  match_moves false f g h = g h

  module _ (kind : HtmlBlockKind) (first : Rest) (lines others rest after : List (List ℕ)) (z : AllZip (Moves outer other) lines others)
      (two : FirstTwo (Moves outer other) rest after) where
    html_moves : EndsAsHtml outer.containers kind first lines rest → EndsAsHtml other.containers kind first others after
    html_moves = match_moves (ends_before_blank kind) (out_stops (EndsHtml kind) lines others rest after z two) by
      where
        by : (EndsHtml kind first × (lines ≡ [])) ⊎ ((¬ EndsHtml kind first) × StopsAfter outer.containers (OutOr outer.containers (EndsHtml kind)) lines rest)
            → (EndsHtml kind first × (others ≡ [])) ⊎ ((¬ EndsHtml kind first) × StopsAfter other.containers
            (OutOr other.containers (EndsHtml kind)) others after)
        by (inl h) = inl (h.0, none_moves (Moves outer other) lines others h.1 z)
        by (inr h) = inr (h.0, out_through (EndsHtml kind) lines others rest after z two h.1)

  -- a table's head
  no_head : (first : Rest) (kind : BlockKind) (line moved : List ℕ) → LaterMoves kind line moved
      → ((columns : ℕ) → ¬ IsHead outer first.text columns line) → (columns : ℕ) → ¬ IsHead other first.text columns moved
  no_head first kind line moved (inl m) none columns h =
      none columns (head_moves other outer moved line (moves_back outer other line moved m) first.text columns h)
  no_head first kind line moved (inr lazy) none columns h = lazy.1 h.2.0

  no_table : (first : Rest) (kind : BlockKind) (lines others rest after : List (List ℕ)) → AllZip (LaterMoves kind) lines others
      → FirstTwo (Moves outer other) rest after → BeginsNoTable outer first (lines ++ rest) → BeginsNoTable other first (others ++ after)
  no_table first kind [] [] rest after z two h =
      first_moves (Moves outer other) (λ l. (columns : ℕ) → ¬ IsHead outer first.text columns l)
      (λ l. (columns : ℕ) → ¬ IsHead other first.text columns l) (λ l k m. no_head first kind l k (inl m)) rest after two h
  no_table first kind [] (moved ∷ others) rest after z two h = absurd z
  no_table first kind (line ∷ lines) [] rest after z two h = absurd z
  no_table first kind (line ∷ lines) (moved ∷ others) rest after z two h = no_head first kind line moved z.0 h

  -- the content of a paragraph
  words_move : (kind : BlockKind) (line moved : List ℕ) → LaterMoves kind line moved → words_in outer.containers line ≡ words_in other.containers moved
  words_move kind line moved (inl m) = ap (λ (r : Rest). without_front r.text) (rest_moves outer other line moved m)
  words_move kind line moved (inr lazy) = lazy.3

  content_moves : (kind : BlockKind) (text : List ℕ) (lines others : List (List ℕ)) → AllZip (LaterMoves kind) lines others
      → content_of outer.containers text lines ≡ content_of other.containers text others
  content_moves kind text lines others z = ap (λ t. without_front text ++ t) (joined lines others z)
    where
      joined : (lines others : List (List ℕ)) → AllZip (LaterMoves kind) lines others
          → flat_map (words_in outer.containers) lines ≡ flat_map (words_in other.containers) others
      joined [] [] z = refl
      joined [] (moved ∷ others) z = absurd z
      joined (line ∷ lines) [] z = absurd z
      joined (line ∷ lines) (moved ∷ others) z =
          ap (λ t. t ++ flat_map (words_in outer.containers) lines) (words_move kind line moved z.0)
          ∙ ap (λ t. words_in other.containers moved ++ t) (joined lines others z.1)

  content_step : (containers : List Container) (text : List ℕ) (before : List (List ℕ)) (line : List ℕ)
      → content_of containers text (before ++ line ∷ []) ≡ content_of containers text before ++ words_in containers line
  content_step containers text before line =
      ap (λ t. without_front text ++ t) (flat_map-append (words_in containers) before (line ∷ [])
      ∙ ap (λ t. flat_map (words_in containers) before ++ t) (append-nil (words_in containers line)))
      ∙ sym (append_assoc (without_front text) (flat_map (words_in containers) before) (words_in containers line))

  -- a line after this content
  back_after : (kind : BlockKind) (line moved content : List ℕ) → LaterMoves kind line moved → Leaves other (EndsContent other.extensions content) moved
      → Leaves outer (EndsContent outer.extensions content) line
  back_after kind line moved content (inl m) h = content_leaves other outer moved line (moves_back outer other line moved m) content h
  back_after kind line moved content (inr lazy) (inl h) = absurd (h.1 lazy.2)
  back_after kind line moved content (inr lazy) (inr h) = absurd (lazy.1 h.0)

  -- a header row of either
  pub table_on : (line moved : List ℕ) (rest after : List (List ℕ)) → Moves outer other line moved → FirstTwo (Moves outer other) rest after
      → BeginTable outer (line ∷ rest) → BeginTable other (moved ∷ after)
  table_on line moved [] after m two table = absurd table
  table_on line moved (next ∷ rest) [] m two table = absurd two
  table_on line moved (next ∷ rest) (next' ∷ after) m two (columns, head) = (
    columns,
    subst (λ t. IsHead other t columns next') (words_move Paragraph line moved (inl m))
        (head_moves outer other next next' two (words_in outer.containers line) columns head),
  )

  pub table_back : (kind : BlockKind) (line moved : List ℕ) (rest after : List (List ℕ)) → LaterMoves kind line moved
      → FirstTwo MovesOrOut rest after → BeginTable other (moved ∷ after) → BeginTable outer (line ∷ rest)
  table_back kind line moved rest [] m two table = absurd table
  table_back kind line moved [] (next' ∷ after) m two table = absurd two
  table_back kind line moved (next ∷ rest) (next' ∷ after) m (inr out) (columns, head) = absurd (out head.2.0)
  table_back kind line moved (next ∷ rest) (next' ∷ after) m (inl n) (columns, head) = (
    columns,
    subst (λ t. IsHead outer t columns next) (sym (words_move kind line moved m))
        (head_moves other outer next' next (moves_back outer other next next' n) (words_in other.containers moved) columns head),
  )

  none_after : (kind : BlockKind) (text : List ℕ) (before before' lines others rest after : List (List ℕ))
      → content_of outer.containers text before ≡ content_of other.containers text before' → AllZip (LaterMoves kind) lines others
      → FirstTwo (Moves outer other) rest after
      → NoneAfter (EndParagraph outer text) before lines rest → NoneAfter (EndParagraph other text) before' others after
  none_after kind text before before' [] [] rest after same z two h = tt
  none_after kind text before before' [] (moved ∷ others) rest after same z two h = absurd z
  none_after kind text before before' (line ∷ lines) [] rest after same z two h = absurd z
  none_after kind text before before' (line ∷ lines) (moved ∷ others) rest after same z two h = (
    stays,
    none_after kind text (before ++ line ∷ []) (before' ++ moved ∷ []) lines others rest after
        (content_step outer.containers text before line ∙ ap (λ t. t ++ words_in outer.containers line) same
        ∙ ap (λ t. content_of other.containers text before' ++ t) (words_move kind line moved z.0)
        ∙ sym (content_step other.containers text before' moved)) z.1 two h.1,
  )
    where
      stays : ¬ EndParagraph other text before' (moved ∷ (others ++ after))
      stays (inl leaves) = h.0 (inl (subst (λ content. Leaves outer (EndsContent outer.extensions content) line) (sym same)
          (back_after kind line moved (content_of other.containers text before') z.0 leaves)))
      stays (inr table) = h.0 (inr (
        λ leaves. h.0 (inl leaves),
        table_back kind line moved (lines ++ rest) (others ++ after) z.0
            (two_moves (Moves outer other) MovesOrOut (λ l k m. inl m) lines others rest after (all_either kind lines others z.1) two) table.1,
      ))

  stops_at : (kind : BlockKind) (text : List ℕ) (lines others rest after : List (List ℕ)) → AllZip (LaterMoves kind) lines others
      → FirstTwo (Moves outer other) rest after
      → (OnFirst (λ line. ¬ LeavesAfter outer text lines line) rest → BeginTable outer rest → BeginTable other after)
      → StopsAt (EndParagraph outer text) lines rest → StopsAt (EndParagraph other text) others after
  stops_at kind text lines others rest after z two table h = record {
    none = none_after kind text [] [] lines others rest after refl z two h.none;
    stopped = by rest after two table h.stopped;
  }
    where
      by : (rest after : List (List ℕ)) → FirstTwo (Moves outer other) rest after
          → (OnFirst (λ line. ¬ LeavesAfter outer text lines line) rest → BeginTable outer rest → BeginTable other after)
          → (rest ≡ []) ⊎ EndParagraph outer text lines rest → (after ≡ []) ⊎ EndParagraph other text others after
      by [] [] two table stops = inl refl
      by [] (moved ∷ after) two table stops = absurd two
      by (line ∷ rest) [] two table stops = absurd two
      by (line ∷ rest) (moved ∷ after) two table (inl none) = cc
      by (line ∷ rest) (moved ∷ after) two table (inr (inl leaves)) =
          inr (inl (subst (λ content. Leaves other (EndsContent other.extensions content) moved) (content_moves kind text lines others z)
          (content_leaves outer other line moved two (content_of outer.containers text lines) leaves)))
      by (line ∷ rest) (moved ∷ after) two table (inr (inr begins)) =
          inr (inr (
            λ leaves. begins.0 (subst (λ content. Leaves outer (EndsContent outer.extensions content) line) (sym (content_moves kind text lines others z))
                (content_leaves other outer moved line (moves_back outer other line moved two) (content_of other.containers text others) leaves)),
            table begins.0 begins.1,
          ))

  none_under : (kind : BlockKind) (text : List ℕ) (lines others : List (List ℕ)) → AllZip (LaterMoves kind) lines others
      → (line moved : List ℕ) → Moves outer other line moved → ((level : HeadingLevel) → ¬ Underlines outer.containers text lines level line)
      → (level : HeadingLevel) → ¬ Underlines other.containers text others level moved
  none_under kind text lines others z line moved m none level h =
      none level (in_back line moved m (IsUnderline level) h.0, subst HasText (sym (content_moves kind text lines others z)) h.1)

  as_later : (kind : BlockKind) (lines others : List (List ℕ)) → AllZip (Moves outer other) lines others → AllZip (LaterMoves kind) lines others
  as_later kind [] [] z = tt
  as_later kind [] (moved ∷ others) z = absurd z
  as_later kind (line ∷ lines) [] z = absurd z
  as_later kind (line ∷ lines) (moved ∷ others) z = (inl z.0, as_later kind lines others z.1)

  -- a setext heading: the lines before its underline, and that
  setext_moves : (level : HeadingLevel) (first : Rest) (lines others rest after : List (List ℕ)) → AllZip (Moves outer other) lines others
      → FirstTwo (Moves outer other) rest after → IsLeaf outer (Setext level) first lines rest → IsLeaf other (Setext level) first others after
  setext_moves level first lines others rest after z two leaf =
      let middle = leaf.1 in
      let last = leaf.2 in
      let zipped : AllZip (Moves outer other) (middle ++ last ∷ []) others = subst (λ ls. AllZip (Moves outer other) ls others) leaf.3 z in
      let cut = zip_last (Moves outer other) middle last others zipped in (
        leaf.0,
        cut.0,
        cut.1,
        cut.2,
        no_table first (Setext level) lines others rest after (as_later (Setext level) lines others z) two leaf.4,
        stops_at (Setext level) first.text middle cut.0 (last ∷ rest) (cut.1 ∷ after) (as_later (Setext level) middle cut.0 cut.3) cut.4
            (λ goes. table_on last cut.1 rest after cut.4 two) leaf.5,
        (
          in_moves outer other last cut.1 cut.4 (IsUnderline level) leaf.6.0,
          subst HasText (content_moves (Setext level) first.text middle cut.0 (as_later (Setext level) middle cut.0 cut.3)) leaf.6.1,
        ),
      )

  -- a table: its delimiter row, and the rows after that
  table_moves : (columns : ℕ) (text : List ℕ) (lines others rest after : List (List ℕ)) → AllZip (Moves outer other) lines others
      → FirstTwo (Moves outer other) rest after → IsTable outer text columns lines rest → IsTable other text columns others after
  table_moves columns text [] others rest after z two leaf = let none = leaf.2 in cc
  table_moves columns text (line ∷ lines) [] rest after z two leaf = absurd z
  table_moves columns text (line ∷ lines) (moved ∷ others) rest after z two leaf =
      let parts = leaf.2 in
      let is_head : leaf.0 ≡ line = cc in
      let are_rows : leaf.1 ≡ lines = cc in (
        moved,
        others,
        refl,
        head_moves outer other line moved z.0 text columns (subst (IsHead outer text columns) is_head leaf.3),
        stops_moves (Moves outer other) (Moves outer other) (λ l. ¬ IsRow outer l) (λ l. ¬ IsRow other l)
            (λ l k m none row. none (row_moves outer other l k m row))
            (λ l k m none row. none (row_moves other outer k l (moves_back outer other l k m) row)) lines others rest after z.1 two
            (subst (λ ls. StopsBefore (λ l. ¬ IsRow outer l) ls rest) are_rows leaf.4),
      )

  -- a term
  term_moves : (kind : BlockKind) (text : List ℕ) (lines others : List (List ℕ)) → AllZip (LaterMoves kind) lines others → (asked : Extensions)
      → IsTerm asked kind (content_in kind outer.containers text lines) → IsTerm asked kind (content_in kind other.containers text others)
  term_moves kind text lines others z asked h =
      let here = ap (λ k. content_in k outer.containers text lines) h.1 in
      let there = ap (λ k. content_in k other.containers text others) h.1 in
      (h.0, h.1, subst HasText (here ∙ content_moves kind text lines others z ∙ sym there) h.2)

  term_back : (kind : BlockKind) (text : List ℕ) (lines others : List (List ℕ)) → AllZip (LaterMoves kind) lines others → (asked : Extensions)
      → IsTerm asked kind (content_in kind other.containers text others) → IsTerm asked kind (content_in kind outer.containers text lines)
  term_back kind text lines others z asked h =
      let here = ap (λ k. content_in k outer.containers text lines) h.1 in
      let there = ap (λ k. content_in k other.containers text others) h.1 in
      (h.0, h.1, subst HasText (sym (here ∙ content_moves kind text lines others z ∙ sym there)) h.2)

  pub given_moves : (kind : BlockKind) (text : List ℕ) (lines others : List (List ℕ)) → AllZip (LaterMoves kind) lines others → (asked : Extensions)
      (term : Bool) → IsTrue term ↔ IsTerm asked kind (content_in kind outer.containers text lines)
      → IsTrue term ↔ IsTerm asked kind (content_in kind other.containers text others)
  given_moves kind text lines others z asked term given =
      (λ t. term_moves kind text lines others z asked (given.0 t), λ h. given.1 (term_back kind text lines others z asked h))

  -- the block
  module _ (first : Rest) (lines others rest after : List (List ℕ)) (f : Follows rest after) where
    pub leaf_moves : (kind : BlockKind)
        → (kind ≡ Paragraph → OnFirst (λ line. ¬ LeavesAfter outer first.text lines line) rest → BeginTable outer rest → BeginTable other after)
        → AllZip (LaterMoves kind) lines others → IsLeaf outer kind first lines rest → IsLeaf other kind first others after
    leaf_moves Blank table z leaf =
        (leaf.0, out_stops (λ r. ¬ IsBlank r) lines others rest after (all_move Blank (λ e. cc) lines others z) f.first leaf.1)
    leaf_moves Break table z leaf = (leaf.0, none_moves (LaterMoves Break) lines others leaf.1 z)
    leaf_moves (Heading level) table z leaf = (leaf.0, none_moves (LaterMoves (Heading level)) lines others leaf.1 z)
    leaf_moves Definition table z leaf = (leaf.0, none_moves (LaterMoves Definition) lines others leaf.1 z)
    leaf_moves (Setext level) table z leaf = setext_moves level first lines others rest after (all_move (Setext level) (λ e. cc) lines others z) f.first leaf
    leaf_moves Indented table z leaf =
        let zipped = all_move Indented (λ e. cc) lines others z in (
          leaf.0,
          record {
            inside = all_moves (Moves outer other) (λ l. ¬ EndsIndented outer.containers l) (λ l. ¬ EndsIndented other.containers l)
                (λ l k m none ends. none (out_back l k m (λ r. (¬ IsBlank r) × (¬ HasIndent r)) ends)) lines others zipped leaf.1.inside;
            last = last_moves lines others zipped leaf.1.last;
            stopped = more_moves rest after f.each leaf.1.stopped;
          },
        )
    leaf_moves (Fenced count byte) table z leaf =
        (leaf.0, out_through (ClosesFence count byte) lines others rest after (all_move (Fenced count byte) (λ e. cc) lines others z) f.first leaf.1)
    leaf_moves (Html kind) table z leaf = (leaf.0, html_moves kind first lines others rest after (all_move (Html kind) (λ e. cc) lines others z) f.first leaf.1)
    leaf_moves (Table columns) table z leaf =
        (leaf.0, table_moves columns first.text lines others rest after (all_move (Table columns) (λ e. cc) lines others z) f.first leaf.1)
    leaf_moves Paragraph table z leaf = (
      leaf.0,
      no_table first Paragraph lines others rest after z f.first leaf.1,
      stops_at Paragraph first.text lines others rest after z f.first (table refl) leaf.2,
      first_moves (Moves outer other) (λ l. (level : HeadingLevel) → ¬ Underlines outer.containers first.text lines level l)
          (λ l. (level : HeadingLevel) → ¬ Underlines other.containers first.text others level l)
          (none_under Paragraph first.text lines others z) rest after f.first leaf.3,
    )

    -- and where its first line goes on with the paragraph before it
    pub leaf_after_moves : (header : Bool) (kind : BlockKind)
        → (kind ≡ Paragraph → OnFirst (λ line. ¬ LeavesAfter outer first.text lines line) rest → BeginTable outer rest → BeginTable other after)
        → AllZip (LaterMoves kind) lines others → IsLeafAfter header outer kind first lines rest → IsLeafAfter header other kind first others after
    leaf_after_moves false kind table z leaf = leaf_moves kind table z leaf
    leaf_after_moves true (Table columns) table z leaf =
        table_moves columns (without_front first.text) lines others rest after (all_move (Table columns) (λ e. cc) lines others z) f.first leaf
    leaf_after_moves true Blank table z leaf = absurd leaf
    leaf_after_moves true Break table z leaf = absurd leaf
    leaf_after_moves true (Heading level) table z leaf = absurd leaf
    leaf_after_moves true (Setext level) table z leaf = absurd leaf
    leaf_after_moves true Indented table z leaf = absurd leaf
    leaf_after_moves true (Fenced count byte) table z leaf = absurd leaf
    leaf_after_moves true (Html html) table z leaf = absurd leaf
    leaf_after_moves true Definition table z leaf = absurd leaf
    leaf_after_moves true Paragraph table z leaf = absurd leaf
