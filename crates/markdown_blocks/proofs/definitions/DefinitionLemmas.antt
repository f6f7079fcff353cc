-- The definitions at the front of a text, one after another.
use Rattle.std.proofs.Common.{ℕ, List, [], ◌∷◌, ◌++◌, ◌≡◌, ◌<◌, ◌≤◌, ◌-◌, length, take}
use Rattle.std.proofs.Common.{drop, refl, sym, ap, ◌∙◌, subst, arith, append-nil, append_assoc, length-append}
use Rattle.std.proofs.Math.Seq.{take-append_seam}
use Rattle.std.proofs.lemmas.List.{append_cancel_left, length-drop, take_all, take-append-le}
use Rattle.std.specs.List.{flat_map}
use Rattle.std.specs.Prelude.{IsTrue, nat_lt}
use Rattle.std.proofs.lemmas.Bool.{lt-ltb, ltb-true}
use Rattle.markdown_scanners_tree.specs.Ascii.{left_bracket}
use Rattle.markdown_scanners_tree.specs.declared.scanners.reference_definitions.ReferenceDefinition.{ReferenceDefinition}
use Rattle.markdown_scanners_tree.specs.scanners.TextLines.{lines_of}
use Rattle.markdown_scanners_tree.proofs.ForCallers.{one_reference_definition}
use Rattle.markdown_blocks.specs.declared.containers.Container.{Container}
use Rattle.markdown_blocks.specs.declared.taken.Extent.{Extent}
use Rattle.markdown_blocks.specs.definitions.Content.{content_of, words_in}
use Rattle.markdown_blocks.specs.definitions.Definitions.{AreDefinitions, HasText, most_nested, IsDefinition}
use Rattle.markdown_blocks.specs.info.Info.{without_front}
use Rattle.markdown_blocks.specs.taken.Lines.{IsTaken, IsNext}
use Rattle.markdown_blocks.proofs.taken.TakenLemmas.{taken-next}

-- a text has one list of definitions at its front
pub one_list_of_definitions : (text : List ℕ) (definitions others : List ReferenceDefinition) (rest rest' : List ℕ) → AreDefinitions text definitions rest
    → AreDefinitions text others rest' → (definitions ≡ others) × (rest ≡ rest')
one_list_of_definitions text [] [] rest rest' is is' = (refl, is.0 ∙ sym is'.0)
one_list_of_definitions text [] (d ∷ others) rest rest' is is' = absurd (is.1 d is'.0)
one_list_of_definitions text (d ∷ definitions) [] rest rest' is is' = absurd (is'.1 d is.0)
one_list_of_definitions text (d ∷ definitions) (d' ∷ others) rest rest' is is' =
    let first : d ≡ d' = one_reference_definition most_nested text d d' is.0 is'.0 in
    let more = one_list_of_definitions (drop d'.len text) definitions others rest rest'
    (subst (λ (e : ReferenceDefinition). AreDefinitions (drop e.len text) definitions rest) first is.1) is'.1 in
    (ap (λ e. e ∷ definitions) first ∙ ap (λ ds. d' ∷ ds) more.0, more.1)

-- a text that begins with another byte begins with none, and nor does no text
pub plain_front : (b : ℕ) (bytes : List ℕ) → ¬ (b ≡ left_bracket) → (d : ReferenceDefinition) → ¬ IsDefinition (b ∷ bytes) d
plain_front b bytes other d is =
    other (let opens : b ∷ bytes ≡ left_bracket ∷ is.target.is_named.inside = is.target.is_named.opens in cc)

pub no_text : (d : ReferenceDefinition) → ¬ IsDefinition [] d
no_text d is = let opens : [] ≡ left_bracket ∷ is.target.is_named.inside = is.target.is_named.opens in cc

pub plain_text : (b : ℕ) (bytes : List ℕ) → ¬ (b ≡ left_bracket) → HasText (b ∷ bytes)
plain_text b bytes other = record {
  definitions = [];
  rest = b ∷ bytes;
  after = (refl, plain_front b bytes other);
  some = λ none. cc;
}

-- whether they are the whole text
module _ (content : List ℕ) (taken : ℕ) (definitions : List ReferenceDefinition) (is : AreDefinitions content definitions (drop taken content))
    (within : taken ≤ length content) where
  pub more_given : taken < length content → HasText content
  more_given fewer = record {
    definitions = definitions;
    rest = drop taken content;
    after = is;
    some = λ none. let size : length (drop taken content) ≡ 0 = ap length none in omega (arith, size, length-drop taken content, fewer);
  }

  pub more_tells : HasText content → taken < length content
  more_tells has =
      let one = one_list_of_definitions content has.definitions definitions has.rest (drop taken content) has.after is in
      by (drop taken content) one.1 (length-drop taken content)
    where
      by : (left : List ℕ) → has.rest ≡ left → length left ≡ length content - taken → taken < length content
      by [] same size = absurd (has.some same)
      by (b ∷ bs) same size = omega (arith, size)

-- the content of a line more
pub content-more : (outer : List Container) (words : List ℕ) (before : List (List ℕ)) (line : List ℕ)
    → content_of outer words before ++ words_in outer line ≡ content_of outer words (before ++ line ∷ [])
content-more outer words before line =
    append_assoc (without_front words) (flat_map (words_in outer) before) (words_in outer line)
    ∙ ap (λ c. without_front words ++ c) (push before)
  where
    push : (ls : List (List ℕ)) → flat_map (words_in outer) ls ++ words_in outer line ≡ flat_map (words_in outer) (ls ++ line ∷ [])
    push [] = sym (append-nil (words_in outer line))
    push (l ∷ ls) = append_assoc (words_in outer l) (flat_map (words_in outer) ls) (words_in outer line)
        ∙ ap (λ c. words_in outer l ++ c) (push ls)

-- the content of the lines that are read, after what stood before it
pub record Read (outer : List Container) (words text line : List ℕ) (count : ℕ) (read : Extent) (old content : List ℕ) : Type 0 where
  pub before : List (List ℕ)
  pub few : length before ≤ count - 1
  pub is_read : IsTaken text read (line ∷ before)
  pub gathered : content ≡ old ++ content_of outer words before

module _ (outer : List Container) (words text line : List ℕ) (count : ℕ) (old : List ℕ) where
  pub read-first : (first : Extent) (content : List ℕ) → IsTaken text first (line ∷ []) → content ≡ old ++ without_front words
      → Read outer words text line count first old content
  read-first first content h gathered = record {
    before = [];
    few = omega arith;
    is_read = h;
    gathered = gathered ∙ ap (λ c. old ++ c) (sym (append-nil (without_front words)));
  }

  -- a line more
  pub read-more : (read more : Extent) (l content now : List ℕ) → Read outer words text line count read old content → read.lines < count
      → IsNext text read l more → now ≡ content ++ words_in outer l → Read outer words text line count more old now
  read-more read more l content now r fewer n grown = record {
    before = r.before ++ l ∷ [];
    few = omega (arith, fewer, r.is_read.counted, length-append r.before (l ∷ []));
    is_read = taken-next text read more (line ∷ r.before) l r.is_read n;
    gathered = grown ∙ ap (λ c. c ++ words_in outer l) r.gathered
        ∙ append_assoc old (content_of outer words r.before) (words_in outer l) ∙ ap (λ c. old ++ c) (content-more outer words r.before l);
  }

  module _ (first read : Extent) (content : List ℕ) (h : IsTaken text first (line ∷ [])) (r : Read outer words text line count read old content) where
    left : lines_of (drop first.bytes text) ≡ r.before ++ lines_of (drop read.bytes text)
    left = append_cancel_left (line ∷ []) (lines_of (drop first.bytes text)) (r.before ++ lines_of (drop read.bytes text)) (sym h.parts ∙ r.is_read.parts)

    -- all lines
    pub read-all : ¬ (read.lines < count) → content ≡ old ++ content_of outer words (take (count - 1) (lines_of (drop first.bytes text)))
    read-all done = r.gathered ∙ ap (λ ls. old ++ content_of outer words ls) (sym all)
      where
        size : count - 1 ≡ length r.before
        size = omega (arith, done, r.few, r.is_read.counted)

        all : take (count - 1) (lines_of (drop first.bytes text)) ≡ r.before
        all = ap (take (count - 1)) left ∙ ap (λ n. take n (r.before ++ lines_of (drop read.bytes text))) size
            ∙ take-append_seam r.before (lines_of (drop read.bytes text))

    -- no line is left
    pub read-end : lines_of (drop read.bytes text) ≡ [] → content ≡ old ++ content_of outer words (take (count - 1) (lines_of (drop first.bytes text)))
    read-end none = r.gathered ∙ ap (λ ls. old ++ content_of outer words ls) (sym all)
      where
        all : take (count - 1) (lines_of (drop first.bytes text)) ≡ r.before
        all = ap (take (count - 1)) (left ∙ ap (λ ls. r.before ++ ls) none ∙ append-nil r.before) ∙ take_all (count - 1) r.before r.few

-- the content of a block: its first lines, of all that stand there
module _ (text line : List ℕ) (later : List (List ℕ)) (first taken : Extent) (h : IsTaken text first (line ∷ [])) (t : IsTaken text taken (line ∷ later)) where
  rest_is : lines_of (drop first.bytes text) ≡ later ++ lines_of (drop taken.bytes text)
  rest_is = append_cancel_left (line ∷ []) (lines_of (drop first.bytes text)) (later ++ lines_of (drop taken.bytes text)) (sym h.parts ∙ t.parts)

  pub later_lines : take (taken.lines - 1) (lines_of (drop first.bytes text)) ≡ later
  later_lines =
      let size : taken.lines - 1 ≡ length later = omega (arith, t.counted) in
      ap (take (taken.lines - 1)) rest_is ∙ ap (λ n. take n (later ++ lines_of (drop taken.bytes text))) size
      ∙ take-append_seam later (lines_of (drop taken.bytes text))

  pub all_but_last : take (taken.lines - 1 - 1) (lines_of (drop first.bytes text)) ≡ take (length later - 1) later
  all_but_last =
      let size : taken.lines - 1 - 1 ≡ length later - 1 = omega (arith, t.counted) in
      ap (take (taken.lines - 1 - 1)) rest_is ∙ ap (λ n. take n (later ++ lines_of (drop taken.bytes text))) size
      ∙ take-append-le (length later - 1) later (lines_of (drop taken.bytes text)) (omega arith)

-- the line that is taken from the front is the first
pub first_line : (text line : List ℕ) (later : List (List ℕ)) (taken : Extent) → IsTaken text taken (line ∷ later) → (start one : Extent) (l : List ℕ)
    → IsTaken text start [] → IsNext text start l one → IsTaken text one (line ∷ [])
first_line text line later taken t start one l none n =
    let is = taken-next text start one [] l none n in
    let here : l ∷ lines_of (drop one.bytes text) ≡ line ∷ (later ++ lines_of (drop taken.bytes text)) = sym is.parts ∙ t.parts in
    let same : l ≡ line = cc in subst (λ x. IsTaken text one (x ∷ [])) same is

-- whether a content is more than its definitions, by their length and its own
pub all_given : (items content : List ℕ) (taken size : ℕ) → items ≡ content
    → (definitions : List ReferenceDefinition) × AreDefinitions items definitions (drop taken items) → taken ≤ length items → size ≡ length items
    → (IsTrue (nat_lt taken size) → HasText content) × (HasText content → IsTrue (nat_lt taken size))
all_given items content taken size is found within counted = (
  λ t. subst HasText is (more_given items taken found.0 found.1 within (omega (arith, ltb-true taken size t, counted))),
  λ has. lt-ltb taken size (omega (arith, more_tells items taken found.0 found.1 within (subst HasText (sym is) has), counted)),
)
