-- HTML as it is read: elements that nest, and between their tags texts and pieces of raw HTML. (HTML standard, 13.1.2, elements, and 13.1.4,
-- character references)
use Rattle.std.specs.Prelude.{ℕ, Bool, List, [], ◌∷◌, ◌++◌, map, codes, IsTrue, if◌then◌else◌}
use Rattle.std.specs.Str.{bytes_eq}
use Rattle.markdown_scanners_tree.specs.Ascii.{line_feed}
use Rattle.markdown_html.specs.SafeHtml.{is_text, read_after, is_one_of, are_attributes, attributes_before, elements, void_elements}

-- What is read: a byte of a text; a piece of raw HTML; that an element of this name begins, or ends; or the edge of a block, where one line
-- feed may stand that belongs to no text.
pub data Item : Type 0 where
  byte : ℕ → Item
  raw : List ℕ → Item
  opens : List ℕ → Item
  closes : List ℕ → Item
  edge : Item

-- the text that stands for an image, as it is read
abbrev pub alternative : List (List ℕ × List ℕ) → List ℕ
alternative [] = []
alternative ((name, value) ∷ later) = if bytes_eq name (codes "alt") then read_after 0 value else alternative later

-- With these elements open, the innermost first, these items are read of the HTML. It ends, where none is open; or a text comes, with
-- references for `<`, `>`, `&` and `"`; or the edge of a block, with a line feed or with none; or a piece of raw HTML; or the start tag of
-- an element, the end tag of the innermost, or the tag of a void element, which holds the text that stands for an image.
pub data ReadsIn (addresses : List ℕ → Bool) : List (List ℕ) → List Item → List ℕ → Type 0 where
  at_end : ReadsIn addresses [] [] []
  past_text : (items : List Item) (outer : List (List ℕ)) (text rest : List ℕ) → IsTrue (is_text text)
      → ReadsIn addresses outer items rest → ReadsIn addresses outer (map byte (read_after 0 text) ++ items) (text ++ rest)
  past_edge : (items : List Item) (outer : List (List ℕ)) (rest : List ℕ)
      → ReadsIn addresses outer items rest → ReadsIn addresses outer (edge ∷ items) rest
  past_line : (items : List Item) (outer : List (List ℕ)) (rest : List ℕ)
      → ReadsIn addresses outer items rest → ReadsIn addresses outer (edge ∷ items) (line_feed ∷ rest)
  past_raw : (items : List Item) (outer : List (List ℕ)) (piece rest : List ℕ)
      → ReadsIn addresses outer items rest → ReadsIn addresses outer (raw piece ∷ items) (piece ++ rest)
  past_start : (items : List Item) (outer : List (List ℕ)) (name : List ℕ) (attributes : List (List ℕ × List ℕ)) (rest : List ℕ)
      → IsTrue (is_one_of elements name) → IsTrue (are_attributes addresses name attributes)
      → ReadsIn addresses (name ∷ outer) items rest
      → ReadsIn addresses outer (opens name ∷ items) (codes "<" ++ (name ++ attributes_before attributes (codes ">" ++ rest)))
  past_end : (items : List Item) (outer : List (List ℕ)) (name rest : List ℕ)
      → ReadsIn addresses outer items rest
      → ReadsIn addresses (name ∷ outer) (closes name ∷ items) (codes "</" ++ (name ++ (codes ">" ++ rest)))
  past_void : (items : List Item) (outer : List (List ℕ)) (name : List ℕ) (attributes : List (List ℕ × List ℕ)) (solidus : Bool)
      (rest : List ℕ)
      → IsTrue (is_one_of void_elements name) → IsTrue (are_attributes addresses name attributes)
      → ReadsIn addresses outer items rest
      → ReadsIn addresses outer (opens name ∷ (map byte (alternative attributes) ++ (closes name ∷ items)))
      (codes "<" ++ (name ++ attributes_before attributes ((if solidus then codes " />" else codes ">") ++ rest)))

-- These items are read of the HTML, whose elements nest, and whose addresses are texts.
abbrev pub Reads : List ℕ → List Item → Type 0
Reads html items = ReadsIn is_text [] items html
