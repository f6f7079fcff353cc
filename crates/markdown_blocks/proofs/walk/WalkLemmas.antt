-- Containers that are opened, and the block of a step.
use Rattle.std.proofs.Common.{ℕ, Bool, List, [], ◌∷◌, ◌++◌, ◌<◌, ◌≤◌, ◌≡◌, length, take}
use Rattle.std.proofs.Common.{drop, Some, None, refl, sym, ap, ◌∙◌, subst, arith, append_assoc, append-nil, length-append}
use Rattle.std.proofs.Common.{IsTrue, true, false, ◌&&◌, ◌||◌, ◌==◌, ◌↔◌, eq-eqb}
use Rattle.std.proofs.lemmas.Bool.{eqb-true}
use Rattle.std.proofs.lemmas.List.{take_all}
use Rattle.markdown_scanners_tree.specs.line.State.{LineState, after_space}
use Rattle.markdown_scanners_tree.specs.scanners.TextLines.{lines_of}
use Rattle.markdown_blocks.specs.containers.Containers.{Between, OpenContainers, Rest, rest_at, rest_in, asked_between, asked_first, match_line, begun_at}
use Rattle.markdown_blocks.specs.containers.Containers.{begun_after, Opens, past_first_line, last_past_first_line, without_terms}
use Rattle.markdown_blocks.specs.declared.blocks.Block.{Block}
use Rattle.markdown_values.specs.declared.values.extensions.Extensions.{Extensions}
use Rattle.markdown_blocks.specs.declared.containers.Container.{Container}
use Rattle.markdown_blocks.specs.declared.containers.Container.TheVariants.{Quote, Item, Footnote, TermDefinition}
use Rattle.markdown_blocks.specs.blocks.Leaves.{BeginTable, EndsRead, IsLeafAfter, Leaves}
use Rattle.markdown_blocks.specs.blocks.Over.{IsOver}
use Rattle.markdown_blocks.specs.blocks.Pages.{Piece, IsPiece, BeginWithHeader, IsBlockAfter, IsBlockOf, IsTableAfter, IsTerm, NoneIsOver, containers_of, is_blank_kind, is_blank_between}
use Rattle.markdown_blocks.specs.blocks.Pages.{is_paragraph_kind, open_between}
use Rattle.markdown_blocks.specs.declared.taken.Extent.{Extent}
use Rattle.markdown_blocks.specs.declared.step.Step.{Step}
use Rattle.markdown_blocks.specs.definitions.Content.{content_in}
use Rattle.markdown_blocks.specs.taken.Lines.{IsTaken}
use Rattle.markdown_blocks.specs.walk.Walk.{IsFirst, IsOpening, IsStep, IsGathered, rest_of}
use Rattle.markdown_blocks.proofs.taken.FrontLemmas.{lines_of_taken}
use Rattle.markdown_blocks.proofs.blocks.OneText.{one_block, same_given}

-- the last container that is left is past_first_line
pub past_first_line-push : (outer : List Container) (c : Container) → last_past_first_line (outer ++ c ∷ []) ≡ outer ++ past_first_line c ∷ []
past_first_line-push [] c = refl
past_first_line-push (a ∷ []) c = refl
past_first_line-push (a ∷ b ∷ outer) c = ap (λ cs. a ∷ cs) (past_first_line-push (b ∷ outer) c)

-- the containers that the line has begun so far, and the rest of it
pub record Opening (old : Between) (line : List ℕ) (now : List Container) (count : ℕ) (rest : Rest) (start : LineState) (asked : Extensions) : Type 0
  where
    pub kept : List Container
    pub begun : List Container
    pub position : LineState
    pub open_now : now ≡ kept ++ begun
    pub counted : count ≡ length kept
    pub goes_on : kept ≡ last_past_first_line (take (match_line old.containers line).kept old.containers)
    pub is_rest : rest ≡ rest_at position
    pub state : start ≡ after_space 4 position
    pub plain : without_terms asked ≡ without_terms old.extensions
    pub goes : (more : List Container) (after : LineState) → Opens asked position more after
        → Opens (asked_between old line) (match_line old.containers line).state (begun ++ more) after

-- without terms the extensions are those that are on
asked_plain : (asked : Extensions) (term : Bool) (left : List Container) → without_terms (asked_first asked term left) ≡ without_terms asked
asked_plain asked true [] = refl
asked_plain asked false [] = refl
asked_plain asked term (Quote ∷ left) = refl
asked_plain asked term (Item item ∷ left) = refl
asked_plain asked term (Footnote ∷ left) = refl
asked_plain asked term (TermDefinition definition ∷ left) = refl

module _ (old : Between) (line : List ℕ) where
  pub opening-first : (now : List Container) (count kept : ℕ) (rest : Rest) (s start : LineState) (asked : Extensions) → count ≡ length now
      → kept ≡ (match_line old.containers line).kept
      → now ≡ last_past_first_line (take kept old.containers) → s ≡ (match_line old.containers line).state → rest ≡ rest_at s → start ≡ after_space 4 s
      → asked ≡ asked_first old.extensions old.term (drop kept old.containers) → Opening old line now count rest start asked
  opening-first now count kept rest s start asked counts keeps left at is state asks = record {
    kept = now;
    begun = [];
    position = (match_line old.containers line).state;
    open_now = sym (append-nil now);
    counted = counts;
    goes_on = subst (λ n. now ≡ last_past_first_line (take n old.containers)) keeps left;
    is_rest = subst (λ z. rest ≡ rest_at z) at is;
    state = subst (λ z. start ≡ after_space 4 z) at state;
    plain = ap without_terms here ∙ asked_plain old.extensions old.term (drop (match_line old.containers line).kept old.containers);
    goes = λ more after h. subst (λ x. Opens x (match_line old.containers line).state more after) here h;
  }
    where
      here : asked ≡ asked_between old line
      here = asks ∙ ap (λ n. asked_first old.extensions old.term (drop n old.containers)) keeps

  pub opening-next : (now more_now : List Container) (count : ℕ) (rest more : Rest) (start next after : LineState) (c : Container)
      (asked : Extensions) → Opening old line now count rest start asked → begun_after asked rest.indent start ≡ Some (c, next)
      → more_now ≡ now ++ c ∷ [] → more ≡ rest_at next → after ≡ after_space 4 next
      → Opening old line more_now count more after (without_terms old.extensions)
  opening-next now more_now count rest left start next after c asked o found grown is state = record {
    kept = o.kept;
    begun = o.begun ++ c ∷ [];
    position = next;
    open_now = grown ∙ ap (λ cs. cs ++ c ∷ []) o.open_now ∙ append_assoc o.kept o.begun (c ∷ []);
    counted = o.counted;
    goes_on = o.goes_on;
    is_rest = is;
    state = state;
    plain = refl;
    goes = λ more last h. rw append_assoc (o.goes (c ∷ more) last (next, here, subst (λ x. Opens x next more last) (sym o.plain) h));
  }
    where
      here : begun_at asked o.position ≡ Some (c, next)
      here = subst (λ n. begun_after asked n (after_space 4 o.position) ≡ Some (c, next)) (ap (λ (r : Rest). r.indent) o.is_rest)
          (subst (λ z. begun_after asked rest.indent z ≡ Some (c, next)) o.state found)

  pub opening-done : (now : List Container) (count : ℕ) (rest : Rest) (start : LineState) (asked : Extensions)
      → Opening old line now count rest start asked → begun_after asked rest.indent start ≡ None → IsOpening old false line now count rest
  opening-done now count rest start asked o none = record {
    kept = o.kept;
    begun = o.begun;
    open_now = o.open_now;
    counted = o.counted;
    opened = record {
      goes_on = o.goes_on;
      position = o.position;
      begins = rw append-nil at (o.goes [] o.position (here, refl));
      is_rest = o.is_rest;
    };
  }
    where
      here : begun_at asked o.position ≡ None
      here = subst (λ n. begun_after asked n (after_space 4 o.position) ≡ None) (ap (λ (r : Rest). r.indent) o.is_rest)
          (subst (λ z. begun_after asked rest.indent z ≡ None) o.state none)

-- whether a paragraph stands before it or not
pub opening-any : (asked : Extensions) (outer : List Container) (term paragraph : Bool) (line : List ℕ) (now : List Container) (count : ℕ) (rest : Rest)
    → IsOpening (record { extensions = asked; containers = outer; term = term; paragraph = false }) false line now count rest
    → IsOpening (record { extensions = asked; containers = outer; term = term; paragraph = paragraph }) false line now count rest
opening-any asked outer term paragraph line now count rest o = record {
  kept = o.kept;
  begun = o.begun;
  open_now = o.open_now;
  counted = o.counted;
  opened = record { goes_on = o.opened.goes_on; position = o.opened.position; begins = o.opened.begins; is_rest = o.opened.is_rest };
}

-- a line that goes on with the paragraph before it
pub opening-kept : (old : Between) (line : List ℕ) (now : List Container) (count : ℕ) (rest : Rest) → now ≡ old.containers → count ≡ length now
    → rest ≡ rest_in old.containers line → IsOpening old true line now count rest
opening-kept old line now count rest same counts is = record {
  kept = now;
  begun = [];
  open_now = sym (append-nil now);
  counted = counts;
  opened = record { goes_on = same; position = (match_line old.containers line).state; begins = (refl, refl); is_rest = is };
}

-- a block has a byte, and no more than the text
pub some_bytes : (header : Bool) (text : List ℕ) (outer : OpenContainers) (line : List ℕ) (words : Rest) (block : Block)
    → IsBlockAfter header text outer line words block
    → (0 < block.taken.bytes) × (block.taken.bytes ≤ length text) × (block.taken.lines ≤ block.taken.bytes)
some_bytes header text outer line words block h =
    let counted = h.taken.counted in let few = block.taken.few in let within = h.taken.within in (omega arith, within, few)

pub kept_settled : (old now popped after : List Container) (kept : ℕ) (last c : Container) → length now ≤ kept → take kept now ≡ take kept old
    → now ≡ popped ++ last ∷ []
    → c ≡ past_first_line last → after ≡ popped ++ c ∷ [] → after ≡ last_past_first_line (take kept old)
kept_settled old now popped after kept last c short same is settles grown =
    grown ∙ ap (λ x. popped ++ x ∷ []) settles ∙ sym (past_first_line-push popped last) ∙ ap last_past_first_line (sym is ∙ sym (take_all kept now short) ∙ same)

-- the extensions that are on, and these containers
abbrev pub with_open : Between → List Container → OpenContainers
with_open old inner = record { extensions = old.extensions; containers = inner }

-- tests of counts
same_tests : (a b c d : ℕ) → (a ≡ b → c ≡ d) → (c ≡ d → a ≡ b) → (a == b) ≡ (c == d)
same_tests a b c d to from = by (a == b) (c == d) refl refl
  where
    by : (s t : Bool) → (a == b) ≡ s → (c == d) ≡ t → s ≡ t
    by true true is is' = refl
    by false false is is' = refl
    by true false is is' = sym (eq-eqb c d (to (eqb-true a b is))) ∙ is'
    by false true is is' = sym is ∙ eq-eqb a b (from (eqb-true c d is'))

-- a block that begins one, in the containers that its first line opens
pub first_opened : (old : Between) (text line : List ℕ) (new : List Container) (count : ℕ) (words : Rest) (block : Block)
    → IsOpening old false line new count words → IsBlockOf text (with_open old new) line words block → (¬ BeginWithHeader old (lines_of text))
    → IsFirst old text line new count words block
first_opened old text line new count words block opening b none = record {
  header = false;
  is_header = (λ t. cc, λ h. absurd (none h));
  opening = opening;
  found = record { later = b.later; taken = b.taken; leaf = b.leaf };
}

pub no_first : (old : Between) (lines : List (List ℕ)) (line : List ℕ) (rest : List (List ℕ)) → lines ≡ line ∷ rest
    → (IsTrue old.paragraph → (¬ Leaves (open_between old) (EndsRead old.extensions old.term) line) → ¬ BeginTable (open_between old) lines)
    → ¬ BeginWithHeader old lines
no_first old lines line rest parts ends h =
    let here = subst (BeginWithHeader old) parts h in
    ends here.0 here.1 (subst (BeginTable (open_between old)) (sym parts) here.2)

-- a table whose header row goes on with the paragraph before it
pub first_kept : (old : Between) (text line : List ℕ) (first : Extent) (new : List Container) (count : ℕ) (words : Rest) (block : Block)
    → IsTaken text first (line ∷ []) → IsTrue old.paragraph → IsTableAfter old.term text (open_between old) line block → new ≡ old.containers
    → count ≡ length new → words ≡ rest_in old.containers line → IsFirst old text line new count words block
first_kept old text line first new count words block t paragraph table same counts is = record {
  header = true;
  is_header = (
    λ h. subst (BeginWithHeader old) (sym t.parts) (paragraph, table.goes_on, subst (BeginTable (open_between old)) t.parts table.begins),
    λ h. refl,
  );
  opening = opening-kept old line new count words same counts is;
  found = subst (λ cs. IsBlockAfter true text (with_open old cs) line words block) (sym same)
      (subst (λ w. IsBlockAfter true text (open_between old) line w block) (sym is) table.is_table);
}

-- the block at the front of the lines, in the containers that its first line opens, and whether it may be a term
module _ (old : Between) (inner : List Container) (line lines : List ℕ) (count : ℕ) (words : Rest) (block : Block)
    (f : IsFirst old lines line inner count words block) (term : Bool) where
  abbrev o : IsOpening old f.header line inner count words
  o = f.opening

  abbrev b : IsBlockAfter f.header lines (with_open old inner) line words block
  b = f.found

  abbrev pub piece_of : Piece
  piece_of = record {
    header = f.header;
    kept = o.kept;
    begun = o.begun;
    words = words;
    kind = block.kind;
    first = line;
    later = b.later;
    term = term;
  }

  is_piece_of : (IsTrue term ↔ IsTerm old.extensions block.kind (content_in block.kind inner words.text b.later)) → (rest : List (List ℕ))
      → IsTrue f.header ↔ BeginWithHeader old (line ∷ (b.later ++ rest))
      → IsLeafAfter f.header (with_open old inner) block.kind words b.later rest → IsPiece old piece_of rest
  is_piece_of given rest header leaf = record {
    is_header = header;
    opened = o.opened;
    leaf = subst (λ cs. IsLeafAfter f.header (with_open old cs) block.kind words b.later rest) o.open_now leaf;
    is_term = subst (λ cs. IsTrue term ↔ IsTerm old.extensions block.kind (content_in block.kind cs words.text b.later)) o.open_now given;
  }

  blank_given : (is_blank_kind block.kind && (block.taken.lines == 1) && (count == length old.containers) && (length inner == count))
      ≡ is_blank_between old.containers piece_of
  blank_given =
      let test : Bool → Bool → Bool → Bool = λ single kept begun. is_blank_kind block.kind && single && kept && begun in
      let counts = b.taken.counted in
      let whole = ap length o.open_now ∙ length-append o.kept o.begun in
      let kept = o.counted in
      let single = same_tests block.taken.lines 1 (length b.later) 0 (λ e. omega (arith, counts, e)) (λ e. omega (arith, counts, e)) in
      let none = same_tests (length inner) count (length o.begun) 0 (λ e. omega (arith, whole, kept, e)) (λ e. omega (arith, whole, kept, e)) in
      ap (λ t. test t (count == length old.containers) (length inner == count)) single
      ∙ ap (λ n. test (length b.later == 0) (n == length old.containers) (length inner == count)) kept
      ∙ ap (test (length b.later == 0) (length o.kept == length old.containers)) none

-- the block at the front of the lines is a step
pub step_here : (old : Between) (inner : List Container) (line lines : List ℕ) (more : List (List ℕ)) (step : Step)
    → (f : IsFirst old lines line inner step.kept (rest_of step) step.block)
    → step.line.now ≡ line → step.start ≡ (match_line old.containers line).state → step.lines.now ≡ take step.block.taken.bytes lines
    → IsTrue f.header ↔ BeginWithHeader old (line ∷ (f.found.later ++ (lines_of (drop step.block.taken.bytes lines) ++ more)))
    → IsLeafAfter f.header (with_open old inner) step.block.kind (rest_of step) f.found.later (lines_of (drop step.block.taken.bytes lines) ++ more)
    → (term after between paragraph : Bool)
    → (IsTrue term ↔ IsTerm old.extensions step.block.kind (content_in step.block.kind inner step.text.now f.found.later))
    → between ≡ (is_blank_kind step.block.kind && (step.block.taken.lines == 1) && (step.kept == length old.containers) && (length inner == step.kept))
    → after ≡ (term || (old.term && between)) → paragraph ≡ is_paragraph_kind step.block.kind
    → IsStep old lines more step (record { extensions = old.extensions; containers = inner; term = after; paragraph = paragraph })
step_here old inner line lines more step f first offset own header leaf term after between paragraph given tests is kind_is =
    let o = f.opening in
    let piece : Piece = piece_of old inner line lines step.kept (rest_of step) step.block f term in
    let given_is = tests ∙ blank_given old inner line lines step.kept (rest_of step) step.block f term in
    record {
      piece = piece;
      is_piece = is_piece_of old inner line lines step.kept (rest_of step) step.block f term given _ header leaf;
      taken = f.found.taken;
      open_now = ap (λ t. record { extensions = old.extensions; containers = inner; term = t; paragraph = paragraph })
          (is ∙ ap (λ t. term || (old.term && t)) given_is)
          ∙ ap (λ p. record {
            extensions = old.extensions;
            containers = inner;
            term = term || (old.term && is_blank_between old.containers piece);
            paragraph = p;
          }) kind_is
          ∙ ap (λ cs. record {
            extensions = old.extensions;
            containers = cs;
            term = term || (old.term && is_blank_between old.containers piece);
            paragraph = is_paragraph_kind step.block.kind;
          }) o.open_now;
      counted = o.counted;
      kind = refl;
      words = refl;
      line = first;
      offset = offset;
      all = ap lines_of own ∙ lines_of_taken lines step.block.taken (line ∷ f.found.later) f.found.taken;
    }

-- what is gathered of its content
pub content_here : (lines text : List ℕ) (block : Block) (inner : List Container) (line : List ℕ) (later : List (List ℕ)) (gathered : List ℕ)
    → IsTaken lines block.taken (line ∷ later) → IsGathered (content_in block.kind inner text later) gathered
    → (first : List ℕ) (others : List (List ℕ)) → lines_of (take block.taken.bytes lines) ≡ first ∷ others
    → IsGathered (content_in block.kind inner text others) gathered
content_here lines text block inner line later gathered t is first others all =
    let same : first ∷ others ≡ line ∷ later = sym all ∙ lines_of_taken lines block.taken (line ∷ later) t in
    subst (λ ls. IsGathered (content_in block.kind inner text ls) gathered) (let ls : later ≡ others = cc in ls) is

-- it is not over, so that no block at the front is
pub none_over : (old : Between) (inner : List Container) (line lines : List ℕ) (has_ended : Bool) (count : ℕ) (words : Rest) (block : Block)
    → IsFirst old lines line inner count words block
    → ¬ IsOver inner block.kind has_ended (lines_of (drop block.taken.bytes lines)) → NoneIsOver old lines has_ended
none_over old inner line lines has_ended count words block f open_yet piece rest parts is over =
    let o = f.opening in
    let b = f.found in
    let left : List (List ℕ) = lines_of (drop block.taken.bytes lines) in
    let header = same_given f.header piece.header _ (subst (λ ls. IsTrue f.header ↔ BeginWithHeader old ls) parts f.is_header) is.is_header in
    let one = one_block old (record {
      header = f.header;
      kept = o.kept;
      begun = o.begun;
      words = words;
      kind = block.kind;
      first = line;
      later = b.later;
      term = piece.term;
    })
    piece left rest (sym b.taken.parts ∙ parts) header o.opened
    (subst (λ cs. IsLeafAfter f.header (with_open old cs) block.kind words b.later left) o.open_now b.leaf) is.opened is.leaf in
    let over_here : IsOver (o.kept ++ o.begun) block.kind has_ended rest =
    subst (λ p. IsOver (containers_of p) p.kind has_ended rest) (sym one.0) over in
    open_yet (subst (λ cs. IsOver cs block.kind has_ended left) (sym o.open_now)
    (subst (λ ls. IsOver (o.kept ++ o.begun) block.kind has_ended ls) (sym one.1) over_here))

pub none_left : (old : Between) (lines : List ℕ) (has_ended : Bool) → lines_of lines ≡ [] → NoneIsOver old lines has_ended
none_left old lines has_ended none piece rest parts is over =
    let both : ◌≡◌ {A = List (List ℕ)} [] ((piece.first ∷ piece.later) ++ rest) = sym none ∙ parts in cc
