-- Link labels. (CommonMark 0.31.2, section 6.3, link labels)
use Rattle.std.specs.Prelude.{ℕ, Bool, true, false, ◌||◌, ◌&&◌, ◌==◌, not, nat_le, List, [], ◌∷◌, ◌++◌, ◌≡◌, ◌+◌, length, take, map, count_by, Option}
use Rattle.std.specs.Prelude.{Some, None, if◌then◌else◌}
use Rattle.std.specs.List.{list_all, join_with_byte}
use Rattle.std.specs.Str.{IsUtf8}
use Rattle.markdown_scanners_tree.specs.Bytes.{begins_with, is_white_space, is_between}
use Rattle.markdown_scanners_tree.specs.Ascii.{space, left_bracket, backslash, right_bracket, vertical_line}
use Rattle.markdown_scanners_tree.specs.Kept.{KeptByte, bytes_of, line_endings, kept_text, AreSkips}
use Rattle.markdown_scanners_tree.specs.scanners.Escapes.{units_by}

-- the kept bytes in units: a backslash with the punctuation that it escapes, or a single byte
-- (section 2.4, backslash escapes)
abbrev pub kept_units : List KeptByte → List (List KeptByte)
kept_units ks = units_by (λ k. k.byte) ks

-- what is between the brackets, and the offset of the closing one
pub record Bracketed : Type 0 where
  pub content : List KeptByte
  pub close : ℕ

-- with these bytes before the content
abbrev pub preceded : List KeptByte → Option Bracketed → Option Bracketed
preceded ks None = None
preceded ks (Some b) = Some (record { content = ks ++ b.content; close = b.close })

-- what stands before the first unit that is `]` alone, where there is one and no `[` alone stands
-- before it
abbrev pub bracketed : List (List KeptByte) → Option Bracketed
bracketed [] = None
bracketed ((k ∷ []) ∷ units) =
    if k.byte == right_bracket then Some (record { content = []; close = k.offset })
    else if k.byte == left_bracket then None
    else preceded (k ∷ []) (bracketed units)
bracketed (unit ∷ units) = preceded unit (bracketed units)

abbrev pub is_white : KeptByte → Bool
is_white k = is_white_space k.byte

-- the byte at the front of the first run, or as a run of its own
abbrev pub onto_runs : Bool → KeptByte → List (List KeptByte) → List (List KeptByte)
onto_runs goes_on k [] = (k ∷ []) ∷ []
onto_runs goes_on k (run ∷ runs) = if goes_on then (k ∷ run) ∷ runs else (k ∷ []) ∷ run ∷ runs

-- the longest runs of bytes that pass the test, in order
abbrev pub runs_of : (KeptByte → Bool) → List KeptByte → List (List KeptByte)
runs_of test [] = []
runs_of test (k ∷ ks) =
    if test k then onto_runs (begins_with test ks) k (runs_of test ks) else runs_of test ks

-- the words between the runs of white space
abbrev pub words : List KeptByte → List (List KeptByte)
words = runs_of (λ k. not (is_white k))

abbrev pub white_runs : List KeptByte → List (List KeptByte)
white_runs = runs_of is_white

-- how many characters: the bytes that go on with no other's character
abbrev pub characters : List KeptByte → ℕ
characters = count_by (λ k. not (is_between 128 191 k.byte))

-- the first byte is a pipe, at this offset
abbrev pub pipe_at : ℕ → List KeptByte → Bool
pipe_at offset [] = false
pipe_at offset (k ∷ ks) = k.byte == vertical_line && k.offset == offset

-- without the one backslash that stands in the source directly before a pipe (GitHub Flavored
-- Markdown 0.29, section 4.10, tables)
abbrev pub without_pipe_backslashes : List KeptByte → List KeptByte
without_pipe_backslashes [] = []
without_pipe_backslashes (k ∷ ks) =
    if k.byte == backslash && pipe_at (k.offset + 1) ks then without_pipe_backslashes ks
    else k ∷ without_pipe_backslashes ks

-- a pipe stands in the source directly after a backslash
abbrev pub has_pipe_backslash : List KeptByte → Bool
has_pipe_backslash [] = false
has_pipe_backslash (k ∷ ks) = (k.byte == backslash && pipe_at (k.offset + 1) ks) || has_pipe_backslash ks

-- one space alone
abbrev pub is_one_space : List KeptByte → Bool
is_one_space [] = false
is_one_space (k ∷ []) = k.byte == space
is_one_space (k ∷ l ∷ ks) = false

-- the content, as cells of tables are read
abbrev pub in_cell : Bool → List KeptByte → List KeptByte
in_cell is_in_table content = if is_in_table then without_pipe_backslashes content else content

-- the words, joined by one space (section 6.3: collapse consecutive internal white space)
abbrev pub joined_words : List KeptByte → List ℕ
joined_words content = join_with_byte space (map bytes_of (words content))

-- at most 999 characters, with a byte that is no white space, and no blank line inside
abbrev pub is_label_content : List KeptByte → Bool
is_label_content content =
    list_all (λ run. nat_le (line_endings run) 1) (white_runs content)
    && nat_le (characters content) 999 && not (list_all is_white content)

-- each run of white space is one space, and no pipe was rewritten
abbrev pub is_plain : Bool → List KeptByte → Bool
is_plain is_in_table content =
    list_all is_one_space (white_runs content) && not (is_in_table && has_pipe_backslash content)

-- a label: how many bytes it takes with its closing bracket, its text, and whether that text stands
-- in the source as it is
pub record Label : Type 0 where
  pub len : ℕ
  pub text : List ℕ
  pub plain : Bool

-- the label that what is between the brackets makes, where it makes one
abbrev pub label_between : Bool → Option Bracketed → Option Label
label_between is_in_table None = None
label_between is_in_table (Some b) =
    if is_label_content b.content then Some (record {
      len = b.close + 1;
      text = joined_words (in_cell is_in_table b.content);
      plain = is_plain is_in_table b.content;
    })
    else None

-- the label at the front of a kept text, where one stands there
abbrev pub label_of : Bool → List KeptByte → Option Label
label_of is_in_table kept = label_between is_in_table (bracketed (kept_units kept))

-- A label stands at the front of a source whose lines a handler answers for.
pub record IsLabel (answers : List ℕ → ℕ → Type 0) (source : List ℕ) (is_in_table : Bool) (label : Label) : Type 0 where
  pub skips : List ℕ
  pub answered : AreSkips answers source skips
  pub label_is : label_of is_in_table (kept_text source skips) ≡ Some label

-- No label stands there.
abbrev pub HasNoLabel : (List ℕ → ℕ → Type 0) → List ℕ → Bool → Type 0
HasNoLabel answers source is_in_table = (label : Label) → ¬ IsLabel answers source is_in_table label

-- A label stands at the front of bytes that may be anything after it: those that it takes are UTF-8.
abbrev pub IsLabelInBytes : (List ℕ → ℕ → Type 0) → List ℕ → Bool → Label → Type 0
IsLabelInBytes answers bytes is_in_table label =
    IsLabel answers bytes is_in_table label × IsUtf8 (take label.len bytes)

-- No such label stands there.
abbrev pub HasNoLabelInBytes : (List ℕ → ℕ → Type 0) → List ℕ → Bool → Type 0
HasNoLabelInBytes answers bytes is_in_table = (label : Label) → ¬ IsLabelInBytes answers bytes is_in_table label

abbrev pub ends_in_backslash : List ℕ → Bool
ends_in_backslash [] = false
ends_in_backslash (b ∷ []) = b == backslash
ends_in_backslash (b ∷ c ∷ bs) = ends_in_backslash (c ∷ bs)

-- The text with a closing bracket after it is the label of itself, without an answer of any
-- handler, and so for each.
abbrev pub ReadsBack : List ℕ → Type 0
ReadsBack text = IsLabel (λ rest skip. ⊥) (text ++ right_bracket ∷ []) false (record {
  len = length text + 1;
  text = text;
  plain = true;
})
