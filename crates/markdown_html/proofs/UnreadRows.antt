-- What is not read of HTML: another element than the next, and a line feed of no text where no block has its edge.
use Rattle.std.proofs.Common.{ℕ, ◌≡◌, Bool, List, [], ◌∷◌, ◌++◌, Option, Some, None, get_or, length, map, refl, ap, arith}
use Rattle.std.specs.Prelude.{codes, if◌then◌else◌}
use Rattle.std.specs.Option.{option_map_or}
use Rattle.markdown_scanners_tree.specs.Ascii.{less_than_sign, line_feed}
use Rattle.markdown_html.specs.ReadHtml.{Item, ReadsIn, Reads, byte, opens, closes}
use Rattle.markdown_html.specs.ReadHtml.{at_end, past_text, past_edge, past_line, past_raw, past_start, past_end, past_void}
use Rattle.markdown_html.specs.SafeHtml.{attributes_before, is_text, read_after, reference_at}

-- Where a text is read next, a byte is.
byte_first : (b : ℕ) (rest : List ℕ) (items later : List Item) (first : Item) → map byte (read_after 0 (b ∷ rest)) ++ items ≡ first ∷ later
    → (c : ℕ) × (first ≡ byte c)
byte_first b rest items later first same = by (reference_at b rest) same
  where
    by : (found : Option (List ℕ × ℕ))
        → map byte (option_map_or (λ reference. reference.1 ∷ read_after (length reference.0) rest) found (b ∷ read_after 0 rest)) ++ items
        ≡ first ∷ later
        → (c : ℕ) × (first ≡ byte c)
    by None same = (b, cc)
    by (Some reference) same = (reference.1, cc)

line_is_no_tag : ¬ (line_feed ≡ less_than_sign)
line_is_no_tag same = omega arith

module _ (addresses : List ℕ → Bool) where
  -- Where an element begins next, its start tag comes.
  next_start : (outer : List (List ℕ)) (items : List Item) (html : List ℕ) → ReadsIn addresses outer items html → (name : List ℕ) (later : List Item)
      → items ≡ opens name ∷ later → (rest : List ℕ) × (html ≡ codes "<" ++ (name ++ rest))
  next_start _ _ _ at_end name later same = cc
  next_start _ _ _ (past_text items outer [] rest textual reading) name later same = next_start outer items rest reading name later same
  next_start _ _ _ (past_text items outer (b ∷ text) rest textual reading) name later same =
      let found = byte_first b text items later (opens name) same in
      let other : opens name ≡ byte found.0 = found.1 in
      cc
  next_start _ _ _ (past_edge items outer rest reading) name later same = cc
  next_start _ _ _ (past_line items outer rest reading) name later same = cc
  next_start _ _ _ (past_raw items outer piece rest reading) name later same = cc
  next_start _ _ _ (past_start items outer other attributes rest is_element are reading) name later same =
      let is : other ≡ name = cc in
      (attributes_before attributes (codes ">" ++ rest), ap (λ n. codes "<" ++ (n ++ attributes_before attributes (codes ">" ++ rest))) is)
  next_start _ _ _ (past_end items outer other rest reading) name later same = cc
  next_start _ _ _ (past_void items outer other attributes solidus rest is_element are reading) name later same =
      let is : other ≡ name = cc in (
        attributes_before attributes ((if solidus then codes " />" else codes ">") ++ rest),
        ap (λ n. codes "<" ++ (n ++ attributes_before attributes ((if solidus then codes " />" else codes ">") ++ rest))) is,
      )

  -- Where an element ends next, its end tag comes.
  next_end : (outer : List (List ℕ)) (items : List Item) (html : List ℕ) → ReadsIn addresses outer items html → (name : List ℕ) (later : List Item)
      → items ≡ closes name ∷ later → (rest : List ℕ) × (html ≡ codes "</" ++ (name ++ rest))
  next_end _ _ _ at_end name later same = cc
  next_end _ _ _ (past_text items outer [] rest textual reading) name later same = next_end outer items rest reading name later same
  next_end _ _ _ (past_text items outer (b ∷ text) rest textual reading) name later same =
      let found = byte_first b text items later (closes name) same in
      let other : closes name ≡ byte found.0 = found.1 in
      cc
  next_end _ _ _ (past_edge items outer rest reading) name later same = cc
  next_end _ _ _ (past_line items outer rest reading) name later same = cc
  next_end _ _ _ (past_raw items outer piece rest reading) name later same = cc
  next_end _ _ _ (past_start items outer other attributes rest is_element are reading) name later same = cc
  next_end _ _ _ (past_end items outer other rest reading) name later same =
      let is : other ≡ name = cc in (codes ">" ++ rest, ap (λ n. codes "</" ++ (n ++ (codes ">" ++ rest))) is)
  next_end _ _ _ (past_void items outer other attributes solidus rest is_element are reading) name later same = cc

  -- A tag whose name begins with another byte is not read where this element begins next.
  other_element : (outer : List (List ℕ)) (b c : ℕ) (name rest : List ℕ) (later : List Item) → ¬ (b ≡ c)
      → ¬ ReadsIn addresses outer (opens (c ∷ name) ∷ later) (60 ∷ b ∷ rest)
  other_element outer b c name rest later differs reading =
      let found = next_start outer (opens (c ∷ name) ∷ later) (60 ∷ b ∷ rest) reading (c ∷ name) later refl in
      let same : 60 ∷ b ∷ rest ≡ 60 ∷ c ∷ (name ++ found.0) = found.1 in
      differs (ap (λ html. get_or html 1 0) same)

  -- No line feed stands before an end tag, or before a start tag, but where a block has its edge.
  line_before_end : (outer : List (List ℕ)) (name rest : List ℕ) (later : List Item) → ¬ ReadsIn addresses outer (closes name ∷ later) (10 ∷ rest)
  line_before_end outer name rest later reading =
      let found = next_end outer (closes name ∷ later) (10 ∷ rest) reading name later refl in
      let same : 10 ∷ rest ≡ 60 ∷ 47 ∷ (name ++ found.0) = found.1 in
      line_is_no_tag (ap (λ html. get_or html 0 0) same)

  line_before_start : (outer : List (List ℕ)) (name rest : List ℕ) (later : List Item) → ¬ ReadsIn addresses outer (opens name ∷ later) (10 ∷ rest)
  line_before_start outer name rest later reading =
      let found = next_start outer (opens name ∷ later) (10 ∷ rest) reading name later refl in
      let same : 10 ∷ rest ≡ 60 ∷ (name ++ found.0) = found.1 in
      line_is_no_tag (ap (λ html. get_or html 0 0) same)

-- `<strong>` is not read where emphasis begins.
strong_row : ¬ Reads (codes "<strong>a</strong>") (opens (codes "em") ∷ byte 97 ∷ closes (codes "em") ∷ [])
strong_row = other_element is_text [] 115 101 (codes "m") (codes "trong>a</strong>") (byte 97 ∷ closes (codes "em") ∷ []) other_letter
  where
    other_letter : ¬ (◌≡◌ {A = ℕ} 115 101)
    other_letter same = omega arith
